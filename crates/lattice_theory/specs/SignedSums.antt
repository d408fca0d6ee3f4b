-- Sums of generators, each taken with either sign, and their levels.
use Rattle.std.specs.Prelude.{◌≡◌, ℕ, zero, suc, ◌≤◌, ◌<◌, ◌⊎◌, List, map, length, All, Contains, IsTrue}
use Rattle.lattice_theory.specs.Vectors.{Vector, add, sub, zeros, is_rising}

-- w is a sum of n generators, each of them with either sign
abbrev pub IsSignedSum : ℕ → List Vector → ℕ → Vector → Type 0
IsSignedSum t gens zero w = w ≡ zeros t
IsSignedSum t gens (suc n) w =
    (before : Vector) × (e : Vector) × IsSignedSum t gens n before × Contains gens e
    × ((w ≡ add before e) ⊎ (w ≡ sub before e))

-- a vector with the least number of signed generators whose sum it is
pub record Sum : Type 0 where
  pub level : ℕ
  pub vector : Vector

pub record HasLevel (t : ℕ) (gens : List Vector) (s : Sum) : Type 0 where
  pub reached : IsSignedSum t gens s.level s.vector
  pub least : (n : ℕ) → IsSignedSum t gens n s.vector → s.level ≤ n

abbrev pub vectors : List Sum → List Vector
vectors sums = map (λ s. s.vector) sums

-- the list of all sums of at most g signed generators, in lexicographic order, with their levels
pub record AreSums (t : ℕ) (gens : List Vector) (g : ℕ) (sums : List Sum) : Type 0 where
  pub rising : IsTrue (is_rising (vectors sums))
  pub sound : All (λ s. (s.level ≤ g) × HasLevel t gens s) sums
  pub complete : (n : ℕ) (w : Vector) → n ≤ g → IsSignedSum t gens n w → Contains (vectors sums) w

-- more than most different sums of at most g signed generators
abbrev pub ExceedsSumsOf : ℕ → List Vector → ℕ → ℕ → Type 0
ExceedsSumsOf t gens g most =
    (zs : List Vector) × IsTrue (is_rising zs) × (most < length zs)
    × All (λ w. (n : ℕ) × (n ≤ g) × IsSignedSum t gens n w) zs
