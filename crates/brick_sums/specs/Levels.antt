-- The sums of one more generator than those that are listed, while they are added one by one.
use Rattle.std.specs.Prelude.{◌≡◌, ℕ, ℤ, suc, ◌≤◌, ◌<◌, ◌⊎◌, List, [], ◌∷◌, ◌++◌, length, map, All, Contains, IsTrue}
use Rattle.std.specs.Prelude.{Vec}
use Rattle.std.specs.declared.alloc.Global.{Global}
use Rattle.std.specs.List.Sorted.{IsPermutation}
use Rattle.lattice_theory.specs.Vectors.{Vector, add, sub, is_rising}
use Rattle.lattice_theory.specs.SignedSums.{Sum, IsSignedSum, HasLevel, vectors}

-- the sums that a map from vectors to levels has, in its order
abbrev pub sums_of : List (Vec ℤ Global × ℕ) → List Sum
sums_of entries = map (λ e. record { level = e.1; vector = e.0.items }) entries

-- the vectors that are kept, in order
abbrev pub kept : List (Vec ℤ Global) → List Vector
kept copies = map (λ v. v.items) copies

-- the list has the sum's vector too: it had it, or the sum came in
pub record IsOffered (sum : Sum) (old new : List Sum) : Type 0 where
  pub rising : IsTrue (is_rising (vectors new))
  pub either :
      ((new ≡ old) × Contains (vectors old) sum.vector)
      ⊎ ((Contains (vectors old) sum.vector → ⊥) × IsPermutation (sum ∷ old) new)

-- the sum was offered, and where it came in a copy of its vector went to the others
pub record IsFound (sum : Sum) (old new : List Sum) (before after : List Vector) : Type 0 where
  pub offered : IsOffered sum old new
  pub copied : ((new ≡ old) × (after ≡ before)) ⊎ (after ≡ before ++ sum.vector ∷ [])

-- the vectors are sums of level generators, and all listed ones of that level are among them
pub record AreLast (t : ℕ) (gens : List Vector) (level : ℕ) (sums : List Sum) (last : List Vector) : Type 0 where
  pub sound : All (IsSignedSum t gens level) last
  pub all : All (λ s. s.level ≡ level → Contains last s.vector) sums

-- a sum of at most n generators, with its level
abbrev pub IsSumUpTo : ℕ → List Vector → ℕ → Sum → Type 0
IsSumUpTo t gens n s = (s.level ≤ n) × HasLevel t gens s

-- all sums of at most level generators, and some of those of one more
pub record AreSumsSoFar (t : ℕ) (gens : List Vector) (level : ℕ) (sums : List Sum) : Type 0 where
  pub rising : IsTrue (is_rising (vectors sums))
  pub sound : All (IsSumUpTo t gens (suc level)) sums
  pub complete : (n : ℕ) (w : Vector) → n ≤ level → IsSignedSum t gens n w → Contains (vectors sums) w

-- the list has such sums, and what it had before; and it is the same or longer
pub record AreGrown (t : ℕ) (gens : List Vector) (level : ℕ) (old new : List Sum) : Type 0 where
  pub so_far : AreSumsSoFar t gens level new
  pub kept : (w : Vector) → Contains (vectors old) w → Contains (vectors new) w
  pub grown : (new ≡ old) ⊎ (length old < length new)

-- the list has the sum and the difference of the two vectors
abbrev pub HasBoth : List Sum → Vector → Vector → Type 0
HasBoth sums v e = Contains (vectors sums) (add v e) × Contains (vectors sums) (sub v e)

-- the list has the sums of the vector and each generator, with either sign
abbrev pub HasNeighbours : List Vector → List Sum → Vector → Type 0
HasNeighbours gens sums v = All (HasBoth sums v) gens
