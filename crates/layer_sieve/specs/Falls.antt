-- By how much the cells of a layer are below those of the next one.
use Rattle.std.specs.Prelude.{◌≡◌, ℕ, ℤ, ◌+ℤ◌, ◌-ℤ◌, ◌≤ℤ◌, Option, Some, slice_get}
use Rattle.sieve_laws.specs.Sieve.{Layer, IsAtMost, live}

-- a bound is known that is no more than the change
abbrev pub IsLow : Option ℤ → ℤ → Type 0
IsLow top change = (a : ℤ) × (top ≡ Some a) × (a ≤ℤ change)

-- no cell of the next layer is missing or above
abbrev pub AreKept : Layer → Layer → Type 0
AreKept next layer = (w : ℕ) (c : ℤ) → slice_get next w ≡ Some (Some c) → IsAtMost layer w c

-- each cell fell by at least so much
abbrev pub FallsLeast : Layer → Layer → ℤ → Type 0
FallsLeast next layer least =
    (w : ℕ) (b a : ℤ) → slice_get next w ≡ Some (Some b) → slice_get layer w ≡ Some (Some a) → least ≤ℤ (b -ℤ a)

-- each live cell fell from a live one, by at most so much
abbrev pub FallsMost : Layer → ℤ → Layer → ℤ → Type 0
FallsMost next limit layer most =
    (w : ℕ) (a : ℤ) → slice_get (live limit layer) w ≡ Some (Some a) →
    (b : ℤ) × (slice_get (live limit next) w ≡ Some (Some b)) × ((b -ℤ a) ≤ℤ most)

-- from the least fall to the most of a live cell it is so much
abbrev pub IsSpread : Layer → ℤ → Layer → ℤ → Type 0
IsSpread next limit layer spread =
    (least : ℤ) × (most : ℤ) × FallsLeast next layer least × FallsMost next limit layer most
    × (spread ≡ (most -ℤ least))

-- the bound is that one and the spread
abbrev pub IsWider : Option ℤ → Option ℤ → ℤ → Type 0
IsWider top spread wide = (a : ℤ) × (b : ℤ) × (top ≡ Some a) × (spread ≡ Some b) × (wide ≡ (a +ℤ b))
