-- Which costs are refused over their bounds, and for which fault: the first one in the order of the faults.
use Rattle.std.specs.Prelude.{ℕ, suc, ◌^◌, ℤ, pos, ◌-ℤ◌, int_lt, int_le, int_rem, nat_lt, Bool, false, ◌&&◌, List, []}
use Rattle.std.specs.Prelude.{◌∷◌, cond, Option, Some, None}
use Rattle.std.specs.Option.{option_or, option_map}
use Rattle.std.specs.Ordering.{int_eq}
use Rattle.fold_theory.specs.declared.Cost.{Cost}
use Rattle.fold_theory.specs.declared.Cost.TheVariants.{Quadratic, Points}
use Rattle.fold_theory.specs.declared.Breakpoint.{Breakpoint}
use Rattle.fold_theory.specs.Costs.{slope, magnitude}
use Rattle.convex_costs.specs.declared.fault.CostFault.{CostFault}
use Rattle.convex_costs.specs.declared.fault.CostFault.TheVariants.{NotRising, SlopeNotWhole, NotConvex, NotCovered}
use Rattle.convex_costs.specs.declared.fault.CostFault.TheVariants.{TooLarge}

-- the second breakpoint is right of the first
abbrev pub is_right : Breakpoint → Breakpoint → Bool
is_right p q = int_lt p.at q.at

-- the slope from the first breakpoint to the second is a whole number
abbrev pub has_whole_slope : Breakpoint → Breakpoint → Bool
has_whole_slope p q = int_eq (int_rem (q.value -ℤ p.value) (q.at -ℤ p.at)) (pos 0)

-- the first breakpoint at which the test of it and the one before fails, where the list begins with number j
abbrev pub first_failing : (Breakpoint → Breakpoint → Bool) → ℕ → List Breakpoint → Option ℕ
first_failing test j [] = None
first_failing test j (p ∷ []) = None
first_failing test j (p ∷ q ∷ ps) = cond (test p q) (first_failing test (suc j) (q ∷ ps)) (Some (suc j))

-- the first breakpoint at which the slope that ends there is less than the one before
abbrev pub first_bend : ℕ → List Breakpoint → Option ℕ
first_bend j [] = None
first_bend j (p ∷ []) = None
first_bend j (p ∷ q ∷ []) = None
first_bend j (p ∷ q ∷ r ∷ ps) = cond (int_le (slope p q) (slope q r)) (first_bend (suc j) (q ∷ r ∷ ps))
    (Some (suc (suc j)))

-- the last breakpoint of those that begin with p
abbrev pub last_of : Breakpoint → List Breakpoint → Breakpoint
last_of p [] = p
last_of p (q ∷ ps) = last_of q ps

-- the breakpoints reach from lo to hi
abbrev pub covers : List Breakpoint → ℤ → ℤ → Bool
covers [] lo hi = false
covers (p ∷ ps) lo hi = int_le p.at lo && int_le hi (last_of p ps).at

-- why breakpoints are refused from lo to hi, if they are, but for their magnitude
abbrev pub points_fault : List Breakpoint → ℤ → ℤ → Option CostFault
points_fault ps lo hi =
    option_or (option_map NotRising (first_failing is_right 1 ps))
    (option_or (option_map SlopeNotWhole (first_failing has_whole_slope 1 ps))
    (option_or (option_map NotConvex (first_bend 1 ps)) (cond (covers ps lo hi) None (Some NotCovered))))

-- why the cost is refused from lo to hi, if it is, but for its magnitude
abbrev pub shape_fault : Cost → ℤ → ℤ → Option CostFault
shape_fault (Quadratic a b c) lo hi = cond (int_lt a (pos 0)) (Some (NotConvex 0)) None
shape_fault (Points ps) lo hi = points_fault ps lo hi

-- why the cost is refused from lo to hi, if it is
abbrev pub cost_fault : Cost → ℤ → ℤ → Option CostFault
cost_fault c lo hi = option_or (shape_fault c lo hi) (cond (nat_lt (2 ^ 120) (magnitude c lo hi)) (Some TooLarge) None)
