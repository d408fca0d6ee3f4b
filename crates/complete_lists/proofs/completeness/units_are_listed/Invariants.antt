use Rattle.std.proofs.Common.{◌≡◌, ◌-◌}
use Rattle.std.specs.List.{list_all}
use Rattle.lattice_theory.specs.Lists.{numbers_from}
use Rattle.lattice_theory.specs.Vectors as vector
use Rattle.lattice_theory.specs.Matrices.{element, unit_vector}
use Rattle.complete_lists.proofs.completeness.units_are_listed.Given as goal

abbrev pub invariant-loop-col : goal.invariant-loop-col
invariant-loop-col l =
    list_all (λ j. vector.is_listed l.basis.rows (element l.matrix (unit_vector l.matrix.cols j)))
    (numbers_from l.col (l.matrix.cols - l.col))
    ≡ list_all (λ j. vector.is_listed l.basis.rows (element l.matrix (unit_vector l.matrix.cols j)))
    (numbers_from 0 l.matrix.cols)
