use Rattle.std.proofs.Common.{◌≡◌, ◌&&◌, drop}
use Rattle.std.specs.List.{list_all}
use Rattle.lattice_theory.specs.Vectors.{add, sub}
use Rattle.run_theory.specs.Checker.{is_sum_within}
use Rattle.listed_sums.specs.Places.{sums_of}
use Rattle.listed_sums.proofs.closure.are_listed.Given as goal

abbrev pub invariant-loop-row : goal.invariant-loop-row
invariant-loop-row l =
    list_all (λ e. is_sum_within (sums_of l.sums.rows) l.level (add l.sum e) && is_sum_within
    (sums_of l.sums.rows) l.level (sub l.sum e)) (drop l.row l.generators.rows)
    ≡ list_all (λ e. is_sum_within (sums_of l.sums.rows) l.level (add l.sum e) && is_sum_within
    (sums_of l.sums.rows) l.level (sub l.sum e)) l.generators.rows
