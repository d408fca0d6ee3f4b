use Rattle.brick_phase.proofs.MoveLaws.{ArePartsOf}
use Rattle.brick_phase.proofs.moves.Moves.new.Given as goal

abbrev pub invariant-loop-i : goal.invariant-loop-i
invariant-loop-i l = ArePartsOf l.cols l.basis.elements l.i l.vectors.items
