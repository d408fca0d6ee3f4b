use Rattle.std.proofs.Common.{◌+◌, ◌≤ℤ◌}
use Rattle.brick_dp.specs.Needs.{IsSwept}
use Rattle.brick_dp.proofs.filling.pass_block.Given as goal

abbrev pub invariant-loop-passed : goal.invariant-loop-passed
invariant-loop-passed g l = record {
  swept : IsSwept l.fold l._point l._k (l.done + l.passed) (g.B.Bound.last l._bound) l.layers l._layer l.floor;
  rises : l.initial.floor ≤ℤ l.floor;
}
