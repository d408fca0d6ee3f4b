use Rattle.std.proofs.Common.{◌≡◌, drop}
use Rattle.std.specs.List.{list_all}
use Rattle.listed_sums.specs.Places.{sums_of}
use Rattle.listed_sums.specs.Closure.{is_closed_at}
use Rattle.listed_sums.proofs.closure.neighbours_are_listed.Given as goal

abbrev pub invariant-loop-place : goal.invariant-loop-place
invariant-loop-place l =
    list_all (is_closed_at (sums_of l.sums.rows) l.generators.rows l.bound) (drop l.place (sums_of l.sums.rows))
    ≡ list_all (is_closed_at (sums_of l.sums.rows) l.generators.rows l.bound) (sums_of l.sums.rows)
