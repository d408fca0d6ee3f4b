-- The members in the order of their norms before the new entry.
use Rattle.std.specs.Prelude.{◌≡◌, ℕ, ◌<◌, Bool, ◌||◌, List, [], length, take, get_or, All, Contains}
use Rattle.std.specs.List.Sorted.{IsNonDecreasingBy}
use Rattle.lattice_theory.specs.Vectors.{Vector, norm1, conforms, opposite}
use Rattle.int_vectors.specs.Signs.{signs_of}
use Rattle.pottier.specs.declared.ranks.Rank.{Rank}

-- the vector, with either sign, is conformally below the other
abbrev pub lies_below : Vector → Vector → Bool
lies_below v z = conforms v z || conforms (opposite v) z

-- the member that is ranked
abbrev pub ranked_in : List Vector → Rank → Vector
ranked_in vs r = get_or vs r.place []

-- the place is that of a member, and the signs are its signs
pub record IsPlaced (vs : List Vector) (r : Rank) : Type 0 where
  pub inside : r.place < length vs
  pub signs : r.signs ≡ signs_of (ranked_in vs r)

-- the norm is that of its first entries
pub record IsRankOf (at : ℕ) (vs : List Vector) (r : Rank) : Type 0 where
  pub placed : IsPlaced vs r
  pub norm : r.norm ≡ norm1 (take at (ranked_in vs r))

-- each member is ranked, and the norms do not fall
pub record AreRanks (at : ℕ) (vs : List Vector) (rs : List Rank) : Type 0 where
  pub sorted : IsNonDecreasingBy (λ r. r.norm) rs
  pub each : All (IsRankOf at vs) rs
  pub all : (i : ℕ) → i < length vs → (r : Rank) × Contains rs r × (r.place ≡ i)
