use Rattle.std.proofs.Common.{rules, ◌≤◌, sym, subst, arith}
use Rattle.round_core.specs.Rounds.{Round}
use Rattle.round_core.specs.Sound.{IsSound}
use Rattle.round_core.proofs.Bounds.{claims_few}
use Rattle.round_core.proofs.round.Round.claim.Goals as goal

pub overflow_add-self : goal.overflow_add-self
overflow_add-self c =
    let r : Round = record {
      lengths = c.self.inside.lengths.items;
      workers = c.self.inside.workers.items;
      claims = c.self.inside.claims;
      best = c.self.inside.best;
    } in
    let few = claims_few r (subst IsSound (sym c.self.view_is) c.requires) in
    let sizes = c.self.invariant in
    let small : c.self.inside.claims ≤ 80 = omega (arith, few, sizes.0, sizes.1) in
    search rules
