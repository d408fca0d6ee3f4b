pub mod ScanLaws
pub mod ElementLaws
pub mod ClashLaws
pub mod PlaceLaws
pub mod CriterionLaws
pub mod RankLaws
