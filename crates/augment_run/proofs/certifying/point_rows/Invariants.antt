use Rattle.augment_run.proofs.RowLists.{PointUpTo}
use Rattle.augment_run.proofs.certifying.point_rows.Given as goal

-- the bricks so far, whose entries are at most 2 ^ 62
abbrev pub invariant-loop-i : goal.invariant-loop-i
invariant-loop-i l = PointUpTo l.point l.i l.entries.items
