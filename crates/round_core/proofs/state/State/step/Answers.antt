use Rattle.std.proofs.Common.{sym, subst, ◌∙◌}
use Rattle.round_core.specs.Sound.{IsSound}
use Rattle.round_core.proofs.EachEvent.{event_keeps}
use Rattle.round_core.proofs.state.State.step.Goals as goal

pub invariant_of-self : goal.invariant_of-self
invariant_of-self c =
    let may = sym c.is_allowed.ensures ∙ c.if-not-is_allowed.false in
    subst IsSound (sym c.apply.ensures) (event_keeps c.self.inside.round c.args.event c.self.invariant may)
