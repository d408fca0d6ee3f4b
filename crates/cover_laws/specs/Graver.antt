-- The Graver basis of a matrix.
use Rattle.std.specs.Prelude.{◌≡◌, true, false, length}
use Rattle.lattice_theory.specs.Vectors.{Vector, ◌⊑◌, is_zero}
use Rattle.lattice_theory.specs.Matrices.{Matrix, product}

-- v has an entry for each column, and its product with the matrix is 0
pub record IsInKernel (m : Matrix) (v : Vector) : Type 0 where
  pub size : length v ≡ m.cols
  pub quiet : is_zero (product m v) ≡ true

-- v is in the kernel and is not 0, and no other such vector is conformally below it
pub record IsGraverElement (m : Matrix) (v : Vector) : Type 0 where
  pub member : IsInKernel m v
  pub nonzero : is_zero v ≡ false
  pub least : (u : Vector) → IsInKernel m u → is_zero u ≡ false → u ⊑ v → u ≡ v
