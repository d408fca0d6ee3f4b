use Rattle.graver_complexity.proofs.LinkLaws.{AreProducts}
use Rattle.graver_complexity.proofs.images.add_row.Given as goal

-- the products of the row and the vectors so far
abbrev pub invariant-loop-j : goal.invariant-loop-j
invariant-loop-j l = AreProducts l.link l.g2.rows l.j l.initial.entries.items l.entries.items
