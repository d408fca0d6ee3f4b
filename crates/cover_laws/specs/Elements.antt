-- Members of a list that can stand below an element of a lattice.
use Rattle.std.specs.Prelude.{◌≡◌, false, take}
use Rattle.lattice_theory.specs.Vectors.{Vector, is_zero}
use Rattle.lattice_theory.specs.Matrices.{Matrix}
use Rattle.lattice_theory.specs.Lattices.{InLattice}

-- z is an element (v, A·v) of the lattice, and v is not 0
pub record IsNonzeroElement (m : Matrix) (z : Vector) : Type 0 where
  pub member : InLattice m z
  pub nonzero : is_zero (take m.cols z) ≡ false
