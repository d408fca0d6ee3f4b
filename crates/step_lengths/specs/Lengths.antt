-- How many step lengths there are.
use Rattle.std.specs.Prelude.{ℕ, ◌^◌, ◌<◌, ◌≤◌, ◌↔◌, max}

-- the lengths up to this range are 2 ^ 0, 2 ^ 1 and so on, so many of them; 2 ^ 0 is always one
abbrev pub IsLengthCount : ℕ → ℕ → Type 0
IsLengthCount range count = (k : ℕ) → (k < count) ↔ (2 ^ k ≤ max 1 range)
