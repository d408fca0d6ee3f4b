use Rattle.pottier.proofs.BasisLaws.{IsRead}
use Rattle.pottier.proofs.basis.kernel.Given as goal

-- the rows of the kernel so far
abbrev pub invariant-loop-i : goal.invariant-loop-i
invariant-loop-i l = IsRead l.b.matrix.cols l.b.elements l.i l.rows l.entries.items
