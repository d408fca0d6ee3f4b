-- When a slack basis is within a limit, and when it exceeds it; that the basis is finite is not needed to say so.
use Rattle.std.specs.Prelude.{ℕ, ◌^◌, ◌<◌, ◌≤◌, ◌⊎◌, unsigned_abs, List, length, All, IsTrue}
use Rattle.lattice_theory.specs.Vectors.{Vector, is_rising, leads_positive}
use Rattle.lattice_theory.specs.Matrices.{Matrix}
use Rattle.lattice_theory.specs.Lattices.{IsMinimal, IsSlackBasis}

-- every entry is at most 2 ^ 31 - 1 in absolute value
abbrev pub IsNarrow : Vector → Type 0
IsNarrow v = All (λ a. unsigned_abs a < 2 ^ 31) v

-- an element of the slack basis: minimal, and its first nonzero entry is positive
abbrev pub IsBasisElement : Matrix → Vector → Type 0
IsBasisElement m z = IsMinimal m z × IsTrue (leads_positive z)

-- more than limit different elements, or one with a wide entry
abbrev pub ExceedsBasis : Matrix → ℕ → Type 0
ExceedsBasis m limit =
    ((zs : List Vector) × IsTrue (is_rising zs) × (limit < length zs) × All (IsBasisElement m) zs)
    ⊎ ((z : Vector) × IsBasisElement m z × ¬ (IsNarrow z))

-- the basis is within the limit, and so is each of its entries
pub record IsBasisWithin (m : Matrix) (limit : ℕ) (basis : List Vector) : Type 0 where
  pub slack : IsSlackBasis m basis
  pub short : length basis ≤ limit
  pub narrow : All IsNarrow basis
