-- A slack basis with its matrix.
use Rattle.std.specs.Prelude.{◌≤◌, List, length}
use Rattle.lattice_theory.specs.Vectors.{Vector}
use Rattle.lattice_theory.specs.Matrices.{Matrix}
use Rattle.lattice_laws.proofs.Elements.{width}
use Rattle.pottier.specs.Stages.{AreMembers}

-- a matrix and the list of the elements of its slack basis
pub record BasisValue : Type 0 where
  pub matrix : Matrix
  pub elements : List Vector

-- each element has an entry for each column and each row, and is narrow, and there are at most 2,000
pub record IsKept (b : BasisValue) : Type 0 where
  pub elements : AreMembers (width b.matrix) b.elements
  pub few : length b.elements ≤ 2000
