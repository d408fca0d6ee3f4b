-- What holds of a cost without fault: it is convex on its bounds, and no larger there than its magnitude.
use Rattle.std.proofs.Common.{◌≡◌, ℕ, ◌^◌, ◌≤◌, max, ℤ, pos, ◌≤ℤ◌, unsigned_abs, int_le, int_lt, nat_lt, Bool, true}
use Rattle.std.proofs.Common.{false, cond, List, [], ◌∷◌, refl, arith, Option, Some, None, ◌&&◌}
use Rattle.std.specs.Option.{option_or, option_map}
use Rattle.std.proofs.lemmas.Int.{ints}
use Rattle.std.proofs.lemmas.Bool.Decides.{nat_tests}
use Rattle.fold_theory.specs.declared.Cost.{Cost}
use Rattle.fold_theory.specs.declared.Cost.TheVariants.{Quadratic, Points}
use Rattle.fold_theory.specs.declared.Breakpoint.{Breakpoint}
use Rattle.fold_theory.specs.Costs.{value, magnitude, IsConvexOn}
use Rattle.convex_costs.specs.declared.fault.CostFault.{CostFault}
use Rattle.convex_costs.specs.Faults.{cost_fault, shape_fault, points_fault, first_failing, first_bend, is_right}
use Rattle.convex_costs.specs.Faults.{has_whole_slope, covers, last_of}
use Rattle.convex_costs.specs.Bounds.{terms, IsAccepted}
use Rattle.convex_costs.proofs.Products.{abs_between, terms_grow, quadratic_abs}
use Rattle.convex_costs.proofs.LineLaws.{lines_of, slopes_rise_of, on_lines-small}
use Rattle.convex_costs.proofs.Convexity.{quadratic_is_convex, lines_are_convex}

-- ---- no fault, test by test

-- of two faults in order none is there
or_none : {A : Type 0} (o p : Option A) → option_or o p ≡ None → (o ≡ None) × (p ≡ None)
or_none None p none = (refl, none)
or_none (Some x) p none = absurd (cc)

-- no place, no fault
map_none : {A B : Type 0} (f : A → B) (o : Option A) → option_map f o ≡ None → o ≡ None
map_none f None none = refl
map_none f (Some x) none = absurd (cc)

-- no fault where the test is to pass: it passes
cond_none : {A : Type 0} (b : Bool) (x : A) → cond b None (Some x) ≡ None → b ≡ true
cond_none true x none = refl
cond_none false x none = absurd (cc)

-- no fault where the test is to fail: it fails
cond_fault : {A : Type 0} (b : Bool) (x : A) → cond b (Some x) None ≡ None → b ≡ false
cond_fault true x none = absurd (cc)
cond_fault false x none = refl

-- none of the faults of breakpoints is there
pub record IsFaultless (ps : List Breakpoint) (lo hi : ℤ) : Type 0 where
  pub rising : first_failing is_right 1 ps ≡ None
  pub whole : first_failing has_whole_slope 1 ps ≡ None
  pub unbent : first_bend 1 ps ≡ None
  pub reaches : covers ps lo hi ≡ true

faultless_of : (ps : List Breakpoint) (lo hi : ℤ) → points_fault ps lo hi ≡ None → IsFaultless ps lo hi
faultless_of ps lo hi none =
    let first = or_none _ _ none in
    let second = or_none _ _ first.1 in
    let third = or_none _ _ second.1 in
    record {
      rising = map_none _ _ first.0;
      whole = map_none _ _ second.0;
      unbent = map_none _ _ third.0;
      reaches = cond_none _ _ third.1;
    }

-- the breakpoints begin at or left of lo, and end at or right of hi
covers_both : (p : Breakpoint) (ps : List Breakpoint) (lo hi : ℤ) → covers (p ∷ ps) lo hi ≡ true →
    (p.at ≤ℤ lo) × (hi ≤ℤ (last_of p ps).at)
covers_both p ps lo hi reaches = by (int_le p.at lo) (int_le hi (last_of p ps).at) refl refl reaches
  where
    by : (s t : Bool) → int_le p.at lo ≡ s → int_le hi (last_of p ps).at ≡ t → (s && t) ≡ true →
        (p.at ≤ℤ lo) × (hi ≤ℤ (last_of p ps).at)
    by true true left right both = (grind (arith, ints), grind (arith, ints))
    by true false left right both = absurd (cc)
    by false t left right both = absurd (cc)

-- a cost without fault has none in its shape
pub shape_none : (c : Cost) (lo hi : ℤ) → cost_fault c lo hi ≡ None → shape_fault c lo hi ≡ None
shape_none c lo hi none = (or_none _ _ none).0

-- and its magnitude is small
pub magnitude_small : (c : Cost) (lo hi : ℤ) → cost_fault c lo hi ≡ None → magnitude c lo hi ≤ 2 ^ 120
magnitude_small c lo hi none = at_most (magnitude c lo hi) (cond_fault _ _ (or_none _ _ none).1)
  where
    at_most : (m : ℕ) → nat_lt (2 ^ 120) m ≡ false → m ≤ 2 ^ 120
    at_most m test = grind (arith, nat_tests)

-- the square of a quadratic cost has no negative factor
rising_factor : (a : ℤ) (f : CostFault) → cond (int_lt a (pos 0)) (Some f) None ≡ None → pos 0 ≤ℤ a
rising_factor a f none = not_less (cond_fault _ _ none)
  where
    not_less : int_lt a (pos 0) ≡ false → pos 0 ≤ℤ a
    not_less test = grind (arith, ints)

-- an accepted cost is convex on its bounds
pub convex_without_fault : (c : Cost) (lo hi : ℤ) → shape_fault c lo hi ≡ None → IsConvexOn (value c) lo hi
convex_without_fault (Quadratic a b c) lo hi none = quadratic_is_convex a b c lo hi (rising_factor a _ none)
convex_without_fault (Points []) lo hi none = absurd (cc (faultless_of [] lo hi none).reaches)
convex_without_fault (Points (p ∷ ps)) lo hi none =
    let is = faultless_of (p ∷ ps) lo hi none in
    let ends = covers_both p ps lo hi is.reaches in
    let convex = lines_are_convex p ps (lines_of 1 1 (p ∷ ps) is.rising is.whole)
    (slopes_rise_of 1 (p ∷ ps) is.unbent) in
    λ v low high. convex v (omega (arith, ints, low, ends.0)) (omega (arith, ints, high, ends.1))

-- within the bounds the terms of a quadratic cost are within its magnitude
terms_within : (a b c lo hi v : ℤ) → lo ≤ℤ v → v ≤ℤ hi →
    terms a b c (unsigned_abs v) ≤ magnitude (Quadratic a b c) lo hi
terms_within a b c lo hi v low high =
    terms_grow a b c (unsigned_abs v) (max (unsigned_abs lo) (unsigned_abs hi)) (abs_between lo hi v low high)

-- within its bounds a cost with no fault in its shape is no larger than its magnitude
pub value_small : (c : Cost) (lo hi v : ℤ) → shape_fault c lo hi ≡ None → lo ≤ℤ v → v ≤ℤ hi →
    unsigned_abs (value c v) ≤ magnitude c lo hi
value_small (Quadratic a b c) lo hi v none low high =
    omega (arith, quadratic_abs a b c v, terms_within a b c lo hi v low high)
value_small (Points []) lo hi v none low high = absurd (cc (faultless_of [] lo hi none).reaches)
value_small (Points (p ∷ ps)) lo hi v none low high =
    let is = faultless_of (p ∷ ps) lo hi none in
    let ends = covers_both p ps lo hi is.reaches in
    on_lines-small p ps v (lines_of 1 1 (p ∷ ps) is.rising is.whole) (omega (arith, ints, low, ends.0))

-- ---- what a type keeps of an accepted cost

-- it is convex
pub accepted_convex : (c : Cost) (lo hi : ℤ) → IsAccepted c lo hi → IsConvexOn (value c) lo hi
accepted_convex c lo hi kept = convex_without_fault c lo hi (shape_none c lo hi kept.faultless)

-- its values are within its magnitude
pub accepted_small : (c : Cost) (lo hi v : ℤ) → IsAccepted c lo hi → lo ≤ℤ v → v ≤ℤ hi →
    unsigned_abs (value c v) ≤ magnitude c lo hi
accepted_small c lo hi v kept low high = value_small c lo hi v (shape_none c lo hi kept.faultless) low high

-- the terms of a quadratic one are small
pub accepted_terms : (a b c lo hi v : ℤ) → IsAccepted (Quadratic a b c) lo hi → lo ≤ℤ v → v ≤ℤ hi →
    terms a b c (unsigned_abs v) ≤ 2 ^ 120
accepted_terms a b c lo hi v kept low high =
    omega (arith, terms_within a b c lo hi v low high, magnitude_small (Quadratic a b c) lo hi kept.faultless)

-- the breakpoints rise
pub accepted_rising : (ps : List Breakpoint) (lo hi : ℤ) → IsAccepted (Points ps) lo hi →
    first_failing is_right 1 ps ≡ None
accepted_rising ps lo hi kept = (faultless_of ps lo hi (shape_none (Points ps) lo hi kept.faultless)).rising
