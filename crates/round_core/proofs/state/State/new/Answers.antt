use Rattle.std.proofs.Common.{sym, subst}
use Rattle.round_core.specs.Sound.{IsSound}
use Rattle.round_core.proofs.Ends.{begun_sound}
use Rattle.round_core.proofs.state.State.new.Goals as goal

pub invariant_of-result : goal.invariant_of-result
invariant_of-result c =
    subst IsSound (sym c.in_ok-round.ensures) (begun_sound c.args.gains.items c.args.workers c.requires.one)
