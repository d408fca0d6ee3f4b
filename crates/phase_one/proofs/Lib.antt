mod StartLaws
