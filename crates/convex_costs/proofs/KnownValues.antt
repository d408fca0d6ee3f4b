-- The definitions at values worked by hand.
use Rattle.std.proofs.Common.{◌≡◌, ℕ, ◌^◌, ℤ, pos, ◌-ℤ◌, map, [], ◌∷◌, Some, None, refl}
use Rattle.fold_theory.specs.declared.Cost.{Cost}
use Rattle.fold_theory.specs.declared.Cost.TheVariants.{Quadratic, Points}
use Rattle.fold_theory.specs.declared.Breakpoint.{Breakpoint}
use Rattle.fold_theory.specs.Costs.{value, magnitude}
use Rattle.convex_costs.specs.Faults.{cost_fault}
use Rattle.convex_costs.specs.declared.fault.CostFault.TheVariants.{NotRising, SlopeNotWhole, NotConvex, NotCovered}
use Rattle.convex_costs.specs.declared.fault.CostFault.TheVariants.{TooLarge}

-- minus n
abbrev minus : ℕ → ℤ
minus n = pos 0 -ℤ pos n

abbrev point : ℕ → ℕ → Breakpoint
point at value = record { at = pos at; value = pos value }

-- a breakpoint whose value is minus n
abbrev low_point : ℕ → ℕ → Breakpoint
low_point at n = record { at = pos at; value = minus n }

abbrev three : Cost
three = Points (point 0 0 ∷ point 2 2 ∷ point 4 8 ∷ [])

known_values : map (value three) (pos 0 ∷ pos 1 ∷ pos 2 ∷ pos 3 ∷ pos 4 ∷ []) ≡ pos 0 ∷ pos 1 ∷ pos 2 ∷ pos 5 ∷ pos 8
    ∷ []
known_values = refl

known_accepted : cost_fault three (pos 0) (pos 4) ≡ None
known_accepted = refl

known_single : cost_fault (Points (low_point 7 1 ∷ [])) (pos 7) (pos 7) ≡ None
known_single = refl

-- the slope from 0 to 2 is 3/2
broken_slope : cost_fault (Points (point 0 0 ∷ point 2 3 ∷ [])) (pos 0) (pos 2) ≡ Some (SlopeNotWhole 2)
broken_slope = refl

-- and minus 3/2
broken_fall : cost_fault (Points (point 0 0 ∷ low_point 2 3 ∷ [])) (pos 0) (pos 2) ≡ Some (SlopeNotWhole 2)
broken_fall = refl

-- slopes 2 and 1
bend : cost_fault (Points (point 0 0 ∷ point 1 2 ∷ point 2 3 ∷ [])) (pos 0) (pos 2) ≡ Some (NotConvex 3)
bend = refl

falling_square : cost_fault (Quadratic (minus 1) (pos 0) (pos 0)) (pos 0) (pos 1) ≡ Some (NotConvex 0)
falling_square = refl

-- a place that falls, and one that stands still
falling_place : cost_fault (Points (point 2 0 ∷ point 1 1 ∷ [])) (pos 1) (pos 2) ≡ Some (NotRising 2)
falling_place = refl

equal_place : cost_fault (Points (point 0 0 ∷ point 1 1 ∷ point 1 2 ∷ [])) (pos 0) (pos 1) ≡ Some (NotRising 3)
equal_place = refl

ends_left : cost_fault (Points (point 0 0 ∷ point 2 2 ∷ [])) (pos 0) (pos 3) ≡ Some NotCovered
ends_left = refl

begins_right : cost_fault (Points (point 0 0 ∷ point 2 2 ∷ [])) (minus 1) (pos 2) ≡ Some NotCovered
begins_right = refl

-- the least fault counts: places before slopes before bends before bounds
places_first : cost_fault (Points (point 0 0 ∷ point 2 3 ∷ point 1 0 ∷ [])) (pos 0) (pos 9) ≡ Some (NotRising 3)
places_first = refl

slopes_next : cost_fault (Points (point 0 0 ∷ point 1 2 ∷ point 2 3 ∷ point 4 6 ∷ [])) (pos 0) (pos 9) ≡ Some
    (SlopeNotWhole 4)
slopes_next = refl

-- 2 ^ 62 times the square of 2 ^ 62
large_square : cost_fault (Quadratic (pos (2 ^ 62)) (pos 0) (pos 0)) (pos 0) (pos (2 ^ 62)) ≡ Some TooLarge
large_square = refl

-- 2 ^ 60 times the square of 2 ^ 30 is the largest magnitude, and 1 more is too large
largest : cost_fault (Quadratic (pos (2 ^ 60)) (pos 0) (pos 0)) (minus (2 ^ 30)) (pos 0) ≡ None
largest = refl

one_more : cost_fault (Quadratic (pos (2 ^ 60)) (pos 0) (minus 1)) (minus (2 ^ 30)) (pos 0) ≡ Some TooLarge
one_more = refl

known_magnitude : magnitude (Quadratic (pos 2) (minus 3) (pos 5)) (minus 4) (pos 3) ≡ 49
known_magnitude = refl
