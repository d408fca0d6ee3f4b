-- Layers of which equal ones are kept once.
use Rattle.std.specs.Prelude.{ℕ, ◌<◌, ℤ, zero, suc, List, [], ◌∷◌, length, All, Option, Vec}
use Rattle.std.specs.declared.alloc.Global.{Global}
use Rattle.sieve_laws.specs.Sieve.{Layer}

-- a layer that is kept
abbrev pub Row : Type 0
Row = Vec (Option ℤ) Global

-- the layer that is kept at this place
abbrev pub row_at : List Row → ℕ → Layer
row_at [] i = []
row_at (row ∷ rows) zero = row.items
row_at (row ∷ rows) (suc i) = row_at rows i

-- each place is one of a layer that is kept, and there is at least one
pub record AreKept (rows : List Row) (places : List ℕ) : Type 0 where
  pub some : 0 < length places
  pub low : All (λ i. i < length rows) places
