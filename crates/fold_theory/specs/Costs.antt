-- Convex costs of one coordinate.
use Rattle.std.specs.Prelude.{ℕ, ◌+◌, ◌*◌, max, ℤ, pos, ◌+ℤ◌, ◌-ℤ◌, ◌*ℤ◌, ◌≤ℤ◌, unsigned_abs, int_le, int_div, true}
use Rattle.std.specs.Prelude.{false, List, [], ◌∷◌, map}
use Rattle.lattice_theory.specs.Lists.{greatest}
use Rattle.fold_theory.specs.declared.Cost.{Cost}
use Rattle.fold_theory.specs.declared.Cost.TheVariants.{Quadratic, Points}
use Rattle.fold_theory.specs.declared.Breakpoint.{Breakpoint}

-- the slope of the line from one breakpoint to the next
abbrev pub slope : Breakpoint → Breakpoint → ℤ
slope p q = int_div (q.value -ℤ p.value) (q.at -ℤ p.at)

-- the value at v on the line between the two breakpoints on both sides of v
abbrev pub on_lines : List Breakpoint → ℤ → ℤ
on_lines [] v = pos 0
on_lines (p ∷ []) v = p.value
on_lines (p ∷ q ∷ ps) v =
    elim (int_le v q.at) [ true ↦ p.value +ℤ slope p q *ℤ (v -ℤ p.at) | false ↦ on_lines (q ∷ ps) v ]

-- the cost at v
abbrev pub value : Cost → ℤ → ℤ
value (Quadratic a b c) v = a *ℤ (v *ℤ v) +ℤ b *ℤ v +ℤ c
value (Points ps) v = on_lines ps v

-- a bound on the absolute value of the cost from lo to hi
abbrev pub magnitude : Cost → ℤ → ℤ → ℕ
magnitude (Quadratic a b c) lo hi =
    let m = max (unsigned_abs lo) (unsigned_abs hi)
    in unsigned_abs a * (m * m) + unsigned_abs b * m + unsigned_abs c
magnitude (Points ps) lo hi = greatest (map (λ p. unsigned_abs p.value) ps)

-- no second difference from lo to hi is negative
abbrev pub IsConvexOn : (ℤ → ℤ) → ℤ → ℤ → Type 0
IsConvexOn f lo hi =
    (v : ℤ) → (lo +ℤ pos 1) ≤ℤ v → v ≤ℤ (hi -ℤ pos 1) → (f v +ℤ f v) ≤ℤ (f (v -ℤ pos 1) +ℤ f (v +ℤ pos 1))

-- a cost with the bounds on which it is accepted
pub record BoundedCost : Type 0 where
  pub cost : Cost
  pub lower : ℤ
  pub upper : ℤ
