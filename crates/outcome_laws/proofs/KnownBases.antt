-- Slack bases at values worked by hand: of the matrix (1 1), whose lattice is that of all (a, b, a + b), of the matrix
-- (1), and of a row without columns.
use Rattle.std.specs.Prelude.{◌≡◌, ℕ, ◌+◌, suc, zero, ℤ, pos, negsuc, ◌+ℤ◌, ◌*ℤ◌, true, false, List, [], ◌∷◌, Contains}
use Rattle.std.specs.Prelude.{refl}
use Rattle.std.proofs.Common.{arith, ap, sym, ◌∙◌, ◌⊎◌, inl, inr, subst, get_or}
use Rattle.std.proofs.lemmas.Int.{ints}
use Rattle.std.proofs.lemmas.Bool.Decides.{nat_tests}
use Rattle.std.proofs.lemmas.List.Elements.{All-nil, All-contains, All-from_recursion, recursion_from_All}
use Rattle.std.specs.List.{All}
use Rattle.lattice_theory.specs.Vectors.{Vector, ◌⊑◌, conforms, is_between, is_zero, leads_positive}
use Rattle.lattice_theory.specs.Matrices.{Matrix}
use Rattle.lattice_theory.specs.Lattices.{InLattice, IsMinimal, IsSlackBasis}
use Rattle.lattice_theory.specs.BasisLimits.{IsBasisElement}
use Rattle.lattice_theory.proofs.KnownValues.{minus, two, three}
use Rattle.lattice_laws.proofs.Tests.{and_true, not_both}
use Rattle.lattice_laws.proofs.Elements.{element-lifted}
use Rattle.lattice_laws.proofs.UnitVectors.{without_rows, first_units, units_elements}
use Rattle.lattice_laws.proofs.Signs.{zero_or_one, below_zero}

head_same : (u v : ℤ) → u ∷ [] ≡ v ∷ [] → u ≡ v
head_same u v e = ap (λ w. get_or w 0 (pos 0)) e

-- a minimal element that lies above a listed one is that one
module _ (m : Matrix) (listed : List Vector) (each : All (IsBasisElement m) listed) where
  listed_below : (u z : Vector) → Contains listed u → IsMinimal m z → u ⊑ z → Contains listed z
  listed_below u z inside minimal below =
      let is = All-contains (IsBasisElement m) listed u each inside in
      subst (Contains listed) (minimal.least u is.0.member is.0.nonzero below) inside

-- ---- the matrix (1 1)

abbrev pub row : Vector
row = two (pos 1) (pos 1)

abbrev pub pair : Matrix
pair = record { cols = 2; rows = row ∷ [] }

abbrev pub basis : List Vector
basis =
    three (pos 0) (pos 1) (pos 1) ∷ three (pos 1) (minus 1) (pos 0) ∷ three (pos 1) (pos 0) (pos 1) ∷ []

-- the unit vectors with their sums
units_are : IsBasisElement pair (three (pos 1) (pos 0) (pos 1)) × IsBasisElement pair (three (pos 0) (pos 1) (pos 1))
units_are =
    let bare = recursion_from_All (IsBasisElement (without_rows 2)) (first_units 2 2) (units_elements 2) in (
      element-lifted (without_rows 2) (row ∷ []) (two (pos 1) (pos 0)) bare.0,
      element-lifted (without_rows 2) (row ∷ []) (two (pos 0) (pos 1)) bare.1.0,
    )

from_minus_one : (b : ℤ) → is_between b (minus 1) ≡ true → (b ≡ pos 0) ⊎ (b ≡ minus 1)
from_minus_one (pos zero) h = inl refl
from_minus_one (pos (suc n)) h = absurd (grind (arith, nat_tests, ints))
from_minus_one (negsuc zero) h = inr refl
from_minus_one (negsuc (suc n)) h = absurd (grind (arith, nat_tests))

-- what is conformally below (1, -1, 0), is not 0 and has the form (a, b, a + b) is that vector itself
below_difference : (a b c : ℤ) → is_between a (pos 1) ≡ true → is_between b (minus 1) ≡ true →
    is_between c (pos 0) ≡ true → c ≡ pos 1 *ℤ a +ℤ (pos 1 *ℤ b +ℤ pos 0) → is_zero (three a b c) ≡ false →
    three a b c ≡ three (pos 1) (minus 1) (pos 0)
below_difference a b c ha hb hc image nonzero = by (zero_or_one a ha) (from_minus_one b hb)
  where
    none : c ≡ pos 0
    none = below_zero c hc

    by : (a ≡ pos 0) ⊎ (a ≡ pos 1) → (b ≡ pos 0) ⊎ (b ≡ minus 1) → three a b c ≡ three (pos 1) (minus 1) (pos 0)
    by (inl e) (inl f) = absurd (not_both (is_zero (three a b c)) (λ i. is_zero (three (e i) (f i) (none i))) nonzero)
    by (inl e) (inr f) = absurd (omega (arith, ints, image, none, e, f))
    by (inr e) (inl f) = absurd (omega (arith, ints, image, none, e, f))
    by (inr e) (inr f) = λ i. three (e i) (f i) (none i)

difference_is : IsBasisElement pair (three (pos 1) (minus 1) (pos 0))
difference_is = (record { member = record { size = refl; image = refl }; nonzero = refl; least = least }, refl)
  where
    least : (y : Vector) → InLattice pair y → is_zero y ≡ false → y ⊑ three (pos 1) (minus 1) (pos 0) →
        y ≡ three (pos 1) (minus 1) (pos 0)
    least [] inside nonzero below = absurd (cc)
    least (a ∷ []) inside nonzero below = absurd (omega (arith, inside.size))
    least (a ∷ b ∷ []) inside nonzero below = absurd (omega (arith, inside.size))
    least (a ∷ b ∷ c ∷ d ∷ y) inside nonzero below = absurd (omega (arith, inside.size))
    least (a ∷ b ∷ c ∷ []) inside nonzero below =
        let rest = conforms (b ∷ c ∷ []) (two (minus 1) (pos 0)) in
        let p = and_true (is_between a (pos 1)) rest below in
        let q = and_true (is_between b (minus 1)) (conforms (c ∷ []) (pos 0 ∷ [])) p.1 in
        let r = and_true (is_between c (pos 0)) true q.1 in
        below_difference a b c p.0 q.0 r.0 (head_same c (pos 1 *ℤ a +ℤ (pos 1 *ℤ b +ℤ pos 0)) inside.image) nonzero

pub each_is : All (IsBasisElement pair) basis
each_is = All-from_recursion (IsBasisElement pair) basis (units_are.1, (difference_is, (units_are.0, tt)))

-- each element that leads positive lies above one of the three
pair_complete : (z : Vector) → IsMinimal pair z → leads_positive z ≡ true → Contains basis z
pair_complete [] minimal leads = absurd (cc)
pair_complete (a ∷ []) minimal leads = absurd (omega (arith, minimal.member.size))
pair_complete (a ∷ b ∷ []) minimal leads = absurd (omega (arith, minimal.member.size))
pair_complete (a ∷ b ∷ c ∷ d ∷ z) minimal leads = absurd (omega (arith, minimal.member.size))
pair_complete (a ∷ b ∷ c ∷ []) minimal leads = by a b minimal leads (image_is a b c minimal)
  where
    image_is : (a b c : ℤ) → IsMinimal pair (three a b c) → c ≡ a +ℤ b
    image_is a b c minimal =
        let e : c ≡ pos 1 *ℤ a +ℤ (pos 1 *ℤ b +ℤ pos 0) = head_same c _ minimal.member.image in
        omega (arith, ints, e)

    second : (n : ℕ) (c : ℤ) → c ≡ pos 0 +ℤ pos (suc n) →
        three (pos 0) (pos 1) (pos 1) ⊑ three (pos 0) (pos (suc n)) c
    second n c e = let same : pos (suc n) ≡ c = omega (arith, ints, e) in
        subst (λ d. three (pos 0) (pos 1) (pos 1) ⊑ three (pos 0) (pos (suc n)) d) same (grind (arith, nat_tests, ints))

    first : (n m : ℕ) (c : ℤ) → c ≡ pos (suc n) +ℤ pos m →
        three (pos 1) (pos 0) (pos 1) ⊑ three (pos (suc n)) (pos m) c
    first n m c e = let same : pos (suc n + m) ≡ c = omega (arith, ints, e) in
        subst (λ d. three (pos 1) (pos 0) (pos 1) ⊑ three (pos (suc n)) (pos m) d) same (grind (arith, nat_tests, ints))

    difference : (n m : ℕ) (c : ℤ) → three (pos 1) (minus 1) (pos 0) ⊑ three (pos (suc n)) (negsuc m) c
    difference n m c = grind (arith, nat_tests, ints)

    no_lead : (c : ℤ) → c ≡ pos 0 → leads_positive (c ∷ []) ≡ true → ⊥
    no_lead c e leads = not_both (leads_positive (c ∷ [])) leads (ap (λ d. leads_positive (d ∷ [])) e)

    by : (a b : ℤ) → IsMinimal pair (three a b c) → leads_positive (three a b c) ≡ true → c ≡ a +ℤ b →
        Contains basis (three a b c)
    by (negsuc n) b minimal leads image = absurd (cc)
    by (pos zero) (negsuc n) minimal leads image = absurd (cc)
    by (pos zero) (pos zero) minimal leads image = absurd (no_lead c (omega (arith, ints, image)) leads)
    by (pos zero) (pos (suc n)) minimal leads image =
        listed_below pair basis each_is _ _ (0, omega arith, refl) minimal (second n c image)
    by (pos (suc n)) (pos m) minimal leads image =
        listed_below pair basis each_is _ _ (2, omega arith, refl) minimal (first n m c image)
    by (pos (suc n)) (negsuc m) minimal leads image =
        listed_below pair basis each_is _ _ (1, omega arith, refl) minimal (difference n m c)

pub it_is_slack : IsSlackBasis pair basis
it_is_slack = record { rising = refl; sound = each_is; complete = pair_complete }

-- ---- the matrix (1)

abbrev pub one : Matrix
one = record { cols = 1; rows = (pos 1 ∷ []) ∷ [] }

abbrev pub units : List Vector
units = two (pos 1) (pos 1) ∷ []

pub unit_is : IsBasisElement one (two (pos 1) (pos 1))
unit_is =
    element-lifted (without_rows 1) (one).rows (pos 1 ∷ [])
    (recursion_from_All (IsBasisElement (without_rows 1)) (first_units 1 1) (units_elements 1)).0

units_are_elements : All (IsBasisElement one) units
units_are_elements = All-from_recursion (IsBasisElement one) units (unit_is, tt)

-- (1, 1) lies below each element that leads positive
one_complete : (z : Vector) → IsMinimal one z → leads_positive z ≡ true → Contains units z
one_complete [] minimal leads = absurd (cc)
one_complete (a ∷ []) minimal leads = absurd (omega (arith, minimal.member.size))
one_complete (a ∷ b ∷ c ∷ z) minimal leads = absurd (omega (arith, minimal.member.size))
one_complete (negsuc n ∷ b ∷ []) minimal leads = absurd (cc)
one_complete (pos zero ∷ b ∷ []) minimal leads =
    let image : b ≡ pos 0 = head_same b (pos 0) minimal.member.image in
    absurd (not_both (leads_positive (b ∷ [])) leads (ap (λ c. leads_positive (c ∷ [])) image))
one_complete (pos (suc n) ∷ b ∷ []) minimal leads =
    let image : b ≡ pos (suc n) =
    head_same b (pos 1 *ℤ pos (suc n) +ℤ pos 0) minimal.member.image ∙ times_one (suc n) in
    let below : two (pos 1) (pos 1) ⊑ two (pos (suc n)) b =
    subst (λ c. two (pos 1) (pos 1) ⊑ two (pos (suc n)) c) (sym image) (one_below n) in
    listed_below one units units_are_elements (two (pos 1) (pos 1)) (two (pos (suc n)) b) (0, omega arith, refl)
    minimal below
  where
    times_one : (m : ℕ) → pos 1 *ℤ pos m +ℤ pos 0 ≡ pos m
    times_one m = omega (arith, ints)

    one_below : (m : ℕ) → two (pos 1) (pos 1) ⊑ two (pos (suc m)) (pos (suc m))
    one_below m = grind (arith, nat_tests, ints)

pub one_is_slack : IsSlackBasis one units
one_is_slack = record { rising = refl; sound = units_are_elements; complete = one_complete }

-- ---- a row without columns

abbrev pub no_columns : Matrix
no_columns = record { cols = 0; rows = [] ∷ [] }

-- 0 is the one element of its lattice
pub none_is_slack : IsSlackBasis no_columns []
none_is_slack = record { rising = refl; sound = All-nil (IsBasisElement no_columns); complete = none_there }
  where
    none_there : (z : Vector) → IsMinimal no_columns z → leads_positive z ≡ true → Contains [] z
    none_there [] minimal leads = absurd (cc)
    none_there (a ∷ b ∷ z) minimal leads = absurd (omega (arith, minimal.member.size))
    none_there (a ∷ []) minimal leads =
        let image : a ≡ pos 0 = head_same a (pos 0) minimal.member.image in
        absurd (not_both (leads_positive (a ∷ [])) leads (ap (λ c. leads_positive (c ∷ [])) image))
