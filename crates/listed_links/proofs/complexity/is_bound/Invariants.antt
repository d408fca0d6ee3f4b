use Rattle.std.proofs.Common.{◌≡◌, drop}
use Rattle.std.specs.List.{list_all}
use Rattle.listed_links.specs.Bounds.{is_bounded_at}
use Rattle.listed_links.proofs.complexity.is_bound.Given as goal

abbrev pub invariant-loop-row : goal.invariant-loop-row
invariant-loop-row l =
    list_all (is_bounded_at l.phase l.relations l.matrix.cols l.bound) (drop l.row l.basis.rows)
    ≡ list_all (is_bounded_at l.phase l.relations l.matrix.cols l.bound) l.basis.rows
