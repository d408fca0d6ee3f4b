-- Where what settles clashes is looked for.
use Rattle.std.specs.Prelude.{◌≡◌, ℕ, length}
use Rattle.lattice_theory.specs.Vectors.{Vector}
use Rattle.lattice_theory.specs.Matrices.{Matrix}
use Rattle.lattice_theory.specs.BasisLimits.{IsNarrow}

-- the rows of a list, and how many first entries may clash
pub record Search : Type 0 where
  pub cols : ℕ
  pub basis : Matrix

-- a vector of narrow entries that is as wide as the rows
pub record FitsRows (basis : Matrix) (v : Vector) : Type 0 where
  pub narrow : IsNarrow v
  pub width : length v ≡ basis.cols
