use Rattle.std.proofs.Common.{sym, subst, IsTrue}
use Rattle.round_core.specs.Steps.{is_settled}
use Rattle.round_core.specs.Sound.{IsBestLength}
use Rattle.round_core.proofs.Ends.{settled_best}
use Rattle.round_core.proofs.state.State.best.Goals as goal

pub returns-clause-end : goal.returns-clause-end
returns-clause-end c =
    let r = c.self.inside.round in
    subst (λ x. IsTrue (is_settled x) → IsBestLength x c.best.result) c.self.view_is
    (λ done. subst (IsBestLength r) (sym c.best.ensures) (settled_best r c.self.invariant done))
