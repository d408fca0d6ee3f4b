use Rattle.std.proofs.Common.{◌≡◌, drop, map}
use Rattle.lattice_theory.specs.Vectors.{same, dot}
use Rattle.lattice_theory.specs.Matrices.{product}
use Rattle.complete_lists.proofs.elements.is_image.Given as goal

abbrev pub invariant-loop-row : goal.invariant-loop-row
invariant-loop-row l = same (drop l.row l.image) (map (λ r. dot r l.v) (drop l.row l.matrix.rows))
    ≡ same l.image (product l.matrix l.v)
