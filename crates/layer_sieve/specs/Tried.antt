-- How many moves were tried, for the cells to which they lead.
use Rattle.std.specs.Prelude.{ℕ, ◌*◌, ◌≤◌, ℤ, List, [], ◌∷◌, length, All, Contains}
use Rattle.sieve_laws.specs.Sieve.{Layer, IsAtMost}

-- no place stands twice
abbrev pub AreDifferent : List ℕ → Type 0
AreDifferent [] = Unit {0}
AreDifferent (j ∷ js) = (Contains js j → ⊥) × AreDifferent js

-- the moves are at most so many for each of some different places whose cells cost at most the limit
abbrev pub IsTried : ℕ → Layer → ℤ → ℕ → Type 0
IsTried each next limit moves =
    (places : List ℕ) × AreDifferent places × All (λ j. IsAtMost next j limit) places × (moves ≤ each * length places)
