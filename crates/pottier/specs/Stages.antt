-- The stages of a completion: what the members are before and after a new entry, which is the one at a place.
use Rattle.std.specs.Prelude.{◌≡◌, ℕ, ◌+◌, ◌≤◌, false, List, [], ◌∷◌, ◌++◌, length, take, All}
use Rattle.lattice_theory.specs.Vectors.{Vector, is_zero, norm1, dot}
use Rattle.lattice_theory.specs.Matrices.{Matrix}
use Rattle.lattice_theory.specs.Lattices.{InLattice}
use Rattle.lattice_theory.specs.BasisLimits.{IsNarrow, IsBasisElement}
use Rattle.lattice_laws.proofs.Elements.{width}
use Rattle.lattice_laws.proofs.Rising.{AreDifferent}
use Rattle.lattice_laws.proofs.SlackBases.{Covers}
use Rattle.lattice_laws.proofs.Completion.{CoversCut, CoversBelow}

-- each vector has this many entries and is narrow
abbrev pub AreMembers : ℕ → List Vector → Type 0
AreMembers size vs = All (λ z. (length z ≡ size) × IsNarrow z) vs

-- such members, and no more than the limit
pub record AreFitting (size limit : ℕ) (vs : List Vector) : Type 0 where
  pub members : AreMembers size vs
  pub short : length vs ≤ limit

-- further vectors stand behind the old ones
abbrev pub Grows : List Vector → List Vector → Type 0
Grows old new = (more : List Vector) × (new ≡ old ++ more)

-- different elements of the slack basis of m, which cover its lattice but for the new entry
pub record IsStage (m : Matrix) (at : ℕ) (vs : List Vector) : Type 0 where
  pub size : width m ≡ at + 1
  pub first : m.cols ≤ at
  pub sound : All (IsBasisElement m) vs
  pub different : AreDifferent vs
  pub covers : CoversCut m at vs

-- different elements of the slack basis of m, which cover its lattice
pub record IsCompleted (m : Matrix) (vs : List Vector) : Type 0 where
  pub sound : All (IsBasisElement m) vs
  pub different : AreDifferent vs
  pub covers : Covers m vs

-- an element of the lattice that is not 0, while those with a smaller cut are covered
pub record IsDue (m : Matrix) (at : ℕ) (vs : List Vector) (z : Vector) : Type 0 where
  pub inside : InLattice m z
  pub nonzero : is_zero z ≡ false
  pub covers : CoversBelow m at (norm1 (take at z)) vs

-- z with its product with the row as its last entry
abbrev pub with_product : Vector → Vector → Vector
with_product row z = z ++ dot row (take (length row) z) ∷ []
