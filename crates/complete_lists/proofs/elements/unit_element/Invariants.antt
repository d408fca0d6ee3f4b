use Rattle.std.proofs.Common.{◌≡◌, ◌++◌, map, take}
use Rattle.lattice_theory.specs.Vectors.{dot}
use Rattle.lattice_theory.specs.Matrices.{unit_vector}
use Rattle.complete_lists.proofs.elements.unit_element.Given as goal

abbrev pub invariant-loop-row : goal.invariant-loop-row
invariant-loop-row l =
    l.element.items
    ≡ unit_vector l.matrix.cols l.col ++ map (λ r. dot r (unit_vector l.matrix.cols l.col)) (take l.row l.matrix.rows)
