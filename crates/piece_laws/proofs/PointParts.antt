-- Two parts of a cost: with a part of the way from x to y in each brick, the two points x + h and y - h together cost
-- no more than x and y do. So for the columns of a brick and for the bricks of a point.
use Rattle.std.proofs.Common.{ℤ, ◌+ℤ◌, ◌-ℤ◌, ℕ, ◌≤ℤ◌, List, [], ◌∷◌, arith}
use Rattle.std.proofs.lemmas.Int.{ints}
use Rattle.std.specs.List.{AllZip, AllByRecursion}
use Rattle.fold_theory.specs.declared.Cost.{Cost}
use Rattle.lattice_theory.specs.Vectors.{Vector, ◌⊑◌, conforms, is_between, add, sub}
use Rattle.lattice_laws.proofs.Tests.{and_true}
use Rattle.fold_theory.specs.Costs.{value, IsConvexOn}
use Rattle.fold_theory.specs.Programs.{Brick, Bricks, IsWithin, AreWithin, IsBrick, brick_cost}
use Rattle.piece_laws.proofs.ConvexParts.{two_parts}
use Rattle.lattice_theory.specs.Lists.{sum_zip, zip_with}
use Rattle.piece_laws.specs.Points.{ArePartsOf, back, forth}

-- ---- the columns of a brick

abbrev AreConvex : List Cost → Vector → Vector → Type 0
AreConvex cs lower upper =
    AllZip {A = Cost} {B = ℤ × ℤ} (λ c bounds. IsConvexOn (value c) bounds.0 bounds.1) cs
    (zip_with (λ l u. (l, u)) lower upper)

-- by the columns
column_parts : (cs : List Cost) (lower upper x y h : Vector) → AreConvex cs lower upper → AllZip ◌≤ℤ◌ lower x →
    AllZip ◌≤ℤ◌ x upper → AllZip ◌≤ℤ◌ lower y → AllZip ◌≤ℤ◌ y upper → h ⊑ sub y x →
    (sum_zip value cs (add x h) +ℤ sum_zip value cs (sub y h)) ≤ℤ (sum_zip value cs x +ℤ sum_zip value cs y)
column_parts [] lower upper x y h convex a b c d below = omega (arith, ints)
column_parts (f ∷ cs) [] upper x y h convex a b c d below = absurd convex
column_parts (f ∷ cs) (l ∷ lower) [] x y h convex a b c d below = absurd convex
column_parts (f ∷ cs) (l ∷ lower) (u ∷ upper) [] y h convex a b c d below = absurd a
column_parts (f ∷ cs) (l ∷ lower) (u ∷ upper) (p ∷ x) [] h convex a b c d below = absurd c
column_parts (f ∷ cs) (l ∷ lower) (u ∷ upper) (p ∷ x) (q ∷ y) [] convex a b c d below = absurd (cc)
column_parts (f ∷ cs) (l ∷ lower) (u ∷ upper) (p ∷ x) (q ∷ y) (k ∷ h) convex a b c d below =
    let parts = and_true (is_between k (q -ℤ p)) (conforms h (sub y x)) below in
    let here = two_parts (value f) l u convex.0 p q k a.0 b.0 c.0 d.0 parts.0 in
    let rest = column_parts cs lower upper x y h convex.1 a.1 b.1 c.1 d.1 parts.1 in
    omega (arith, ints, here, rest)

brick_parts : (t s : ℕ) (b : Brick) (x y h : Vector) → IsBrick t s b → IsWithin b x → IsWithin b y → h ⊑ sub y x →
    (brick_cost b (add x h) +ℤ brick_cost b (sub y h)) ≤ℤ (brick_cost b x +ℤ brick_cost b y)
brick_parts t s b x y h is wx wy below =
    column_parts b.costs b.lower b.upper x y h is.convex wx.0 wx.1 wy.0 wy.1 below

-- ---- the bricks of a point

-- so for all bricks
pub point_parts : (t s : ℕ) (bs : List Brick) (x y h : Bricks) → AllByRecursion (IsBrick t s) bs →
    AreWithin bs x → AreWithin bs y → ArePartsOf h x y →
    (sum_zip brick_cost bs (forth x h) +ℤ sum_zip brick_cost bs (back y h))
    ≤ℤ (sum_zip brick_cost bs x +ℤ sum_zip brick_cost bs y)
point_parts t s [] x y h is wx wy below = omega (arith, ints)
point_parts t s (b ∷ bs) [] y h is wx wy below = absurd wx
point_parts t s (b ∷ bs) (p ∷ x) [] h is wx wy below = absurd wy
point_parts t s (b ∷ bs) (p ∷ x) (q ∷ y) [] is wx wy below = absurd below
point_parts t s (b ∷ bs) (p ∷ x) (q ∷ y) (k ∷ h) is wx wy below =
    let here = brick_parts t s b p q k is.0 wx.0 wy.0 below.0 in
    let rest = point_parts t s bs x y h is.1 wx.1 wy.1 below.1 in
    omega (arith, ints, here, rest)
