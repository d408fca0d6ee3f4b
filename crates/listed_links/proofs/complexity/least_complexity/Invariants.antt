use Rattle.std.proofs.Common.{◌≡◌, drop}
use Rattle.std.specs.List.{list_all}
use Rattle.lattice_theory.specs.Vectors.{is_zero}
use Rattle.listed_links.proofs.complexity.least_complexity.Given as goal

abbrev pub invariant-loop-row : goal.invariant-loop-row
invariant-loop-row l = list_all is_zero (drop l.row l.matrix.rows) ≡ list_all is_zero l.matrix.rows
