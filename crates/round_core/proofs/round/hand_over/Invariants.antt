use Rattle.std.proofs.Common.{◌≡◌, map, take, drop, ◌++◌}
use Rattle.round_core.specs.Steps.{handed_over}
use Rattle.round_core.proofs.round.hand_over.Given as goal

abbrev pub invariant-loop-length : goal.invariant-loop-length
invariant-loop-length l =
    l.lengths ≡ map (handed_over l.from l.worker) (take l.length-index l.initial.lengths)
    ++ drop l.length-index l.initial.lengths
