use Rattle.std.proofs.Common.{◌∙◌, ◌<◌, ap, sym, subst, length, Some, IfSome, IfNone}
use Rattle.std.proofs.lemmas.Option.{slice_get-get_or}
use Rattle.brick_dp.specs.Menus.{AreMenus}
use Rattle.round_workers.proofs.menus.RunMenus.best_step.Goals as goal
use Rattle.round_workers.proofs.menus.RunMenus.best_step.Goals.{in-Some, in-None}

pub best_step_with-requires-clause-menus : goal.best_step_with-requires-clause-menus
best_step_with-requires-clause-menus g c =
    let f = c.args.fold.now in
    let x = c.args.point.now in
    let kept = c.args.self.now.menus.items in
    elim c.match-own.branch [
      | in-Some w ↦
          subst (AreMenus f x c.args.k) (ap (λ m. m.now) (sym w.menus-is))
          (subst (λ own. IfSome own (AreMenus f x c.args.k)) w.in-Some.is c.in_ok-own.ensures.own)
      | in-None w ↦
          let low = subst (λ own. IfNone own (c.args.k < length kept)) w.in-None.is c.in_ok-own.ensures.kept in
          subst (AreMenus f x c.args.k) (ap (λ m. m.now) (sym w.menus-is))
          (c.requires.menus.each c.args.k w.index.result.now
          (slice_get-get_or kept c.args.k w.index.result.now low ∙ ap Some (sym w.index.ensures)))
    ]
