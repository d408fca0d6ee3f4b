use Rattle.brick_dp.proofs.ReadLaws.{Reading}
use Rattle.brick_dp.proofs.reading.step_from.Given as goal

abbrev pub invariant-loop-done : goal.invariant-loop-done
invariant-loop-done l = Reading l.fold l._point l.k l.layers l.total l.done l.sum l.cost l.moved.items l.entries.items
