-- Sums of signed members of a list, and conformal ones.
use Rattle.std.proofs.Common.{◌≡◌, ℕ, List, length}
use Rattle.std.specs.List.{AllByRecursion}
use Rattle.lattice_theory.specs.Vectors.{Vector, ◌⊑◌}
use Rattle.lattice_laws.proofs.SlackBases.{IsSigned}
use Rattle.lattice_laws.specs.VectorLists.{sum_of}

-- a vector of n entries that is a member of the list, as it is or with its signs turned
abbrev pub IsTerm : ℕ → List Vector → Vector → Type 0
IsTerm n basis e = (length e ≡ n) × IsSigned basis e

abbrev pub AreTerms : ℕ → List Vector → List Vector → Type 0
AreTerms n basis es = AllByRecursion (IsTerm n basis) es

-- z is a sum of terms
pub record Spanned (n : ℕ) (basis : List Vector) (z : Vector) : Type 0 where
  pub terms : List Vector
  pub signed : AreTerms n basis terms
  pub sum : sum_of n terms ≡ z

-- z is a sum of terms that are each conformally below z
abbrev pub ConformalSum : ℕ → List Vector → Vector → Type 0
ConformalSum n basis z = (s : Spanned n basis z) × AllByRecursion (λ e. e ⊑ z) s.terms
