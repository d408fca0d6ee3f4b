-- How large the cells of a list may be.
use Rattle.std.specs.Prelude.{ℕ, ℤ, ◌≤◌, unsigned_abs, List, Option, All, IfSome}

-- each cell is at most so large in absolute value, where there is one
abbrev pub AreSmall : ℕ → List (Option ℤ) → Type 0
AreSmall most cells = All (λ c. IfSome c (λ a. unsigned_abs a ≤ most)) cells
