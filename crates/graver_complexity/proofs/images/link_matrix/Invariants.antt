use Rattle.graver_complexity.proofs.LinkLaws.{AreRows}
use Rattle.graver_complexity.proofs.images.link_matrix.Given as goal

-- the rows so far
abbrev pub invariant-loop-i : goal.invariant-loop-i
invariant-loop-i l = AreRows l.g2.rows l.a1.rows l.i l.entries.items
