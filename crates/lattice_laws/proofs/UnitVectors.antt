-- The unit vectors: the slack basis of the matrix with no row.
use Rattle.std.proofs.Common.{◌≡◌, ◌≢◌, ℕ, zero, suc, ◌<◌, ◌≤◌, pos, negsuc, true, false, ◌&&◌, List, [], ◌∷◌, ◌++◌}
use Rattle.std.proofs.Common.{length, refl, ap, arith, sym, ◌∙◌, Contains, ◌⊎◌, inl, inr, subst}
use Rattle.std.specs.List.{All}
use Rattle.std.specs.Ordering.{int_eq}
use Rattle.std.proofs.lemmas.Int.{ints}
use Rattle.std.proofs.lemmas.Bool.Decides.{nat_tests}
use Rattle.std.proofs.lemmas.Bool.{cases_eq}
use Rattle.std.proofs.lemmas.List.{drop_all, length_push}
use Rattle.std.proofs.lemmas.List.Elements.{All-nil, All-push, All-weaker, All-get_or, Contains-append_left}
use Rattle.std.proofs.lemmas.List.Elements.{Contains-push}
use Rattle.std.proofs.lemmas.List.Quantifiers.{all_pairs_push}
use Rattle.lattice_theory.specs.Vectors.{Vector, ◌⊑◌, conforms, is_between, is_zero, leads_positive, opposite, zeros}
use Rattle.lattice_theory.specs.Matrices.{Matrix, unit_vector}
use Rattle.lattice_theory.specs.Lattices.{InLattice}
use Rattle.lattice_theory.specs.BasisLimits.{IsBasisElement}
use Rattle.lattice_laws.proofs.Tests.{and_true, not_both}
use Rattle.lattice_laws.proofs.Conformal.{opposite-opposite}
use Rattle.lattice_laws.proofs.Products.{length-zeros, zero-zeros}
use Rattle.lattice_laws.proofs.Rising.{AreDifferent}
use Rattle.lattice_laws.proofs.SlackBases.{Covers}
use Rattle.lattice_laws.proofs.Signs.{below_zero, between_zero, zero_or_one}
use Rattle.lattice_laws.proofs.Sums.{opposite-zeros}

pub length-unit : (t j : ℕ) → length (unit_vector t j) ≡ t
length-unit zero j = refl
length-unit (suc t) zero = ap suc (length-zeros t)
length-unit (suc t) (suc j) = ap suc (length-unit t j)

pub unit_leads : (t j : ℕ) → j < t → leads_positive (unit_vector t j) ≡ true
unit_leads zero j h = absurd (omega arith)
unit_leads (suc t) zero h = refl
unit_leads (suc t) (suc j) h = unit_leads t j (omega arith)

unit_nonzero : (t j : ℕ) → j < t → is_zero (unit_vector t j) ≡ false
unit_nonzero zero j h = absurd (omega arith)
unit_nonzero (suc t) zero h = let e : int_eq (pos 1) (pos 0) ≡ false = grind (arith, nat_tests, ints) in
    ap (λ b. b && is_zero (zeros t)) e
unit_nonzero (suc t) (suc j) h = unit_nonzero t j (omega arith)

-- what is below 0 is 0
below_zeros : (t : ℕ) (u : Vector) → u ⊑ zeros t → u ≡ zeros t
below_zeros zero [] h = refl
below_zeros zero (a ∷ u) h = absurd (cc)
below_zeros (suc t) [] h = absurd (cc)
below_zeros (suc t) (a ∷ u) h =
    let p = and_true (is_between a (pos 0)) (conforms u (zeros t)) h in
    let e : a ≡ pos 0 = below_zero a p.0 in
    λ i. e i ∷ below_zeros t u p.1 i

zeros_below : (t : ℕ) (y : Vector) → length y ≡ t → zeros t ⊑ y
zeros_below zero [] e = refl
zeros_below zero (b ∷ y) e = absurd (omega arith)
zeros_below (suc t) [] e = absurd (omega arith)
zeros_below (suc t) (b ∷ y) e = let k : is_between (pos 0) b ≡ true = between_zero b in
    ap (λ s. s && conforms (zeros t) y) k ∙ zeros_below t y (omega arith)

-- nothing but a unit vector is below it
below_unit : (t j : ℕ) (u : Vector) → is_zero u ≡ false → u ⊑ unit_vector t j → u ≡ unit_vector t j
below_unit zero j [] n h = absurd (cc)
below_unit zero j (a ∷ u) n h = absurd (cc)
below_unit (suc t) zero [] n h = absurd (cc)
below_unit (suc t) zero (a ∷ u) n h =
    let p = and_true (is_between a (pos 1)) (conforms u (zeros t)) h in
    let r : u ≡ zeros t = below_zeros t u p.1 in
    elim (zero_or_one a p.0) [
      | inl e ↦ absurd (not_both (is_zero (a ∷ u)) (ap (λ b. is_zero (b ∷ u)) e ∙ ap is_zero r ∙ zero-zeros t) n)
      | inr e ↦ λ i. e i ∷ r i
    ]
below_unit (suc t) (suc j) [] n h = absurd (cc)
below_unit (suc t) (suc j) (a ∷ u) n h =
    let p = and_true (is_between a (pos 0)) (conforms u (unit_vector t j)) h in
    let e : a ≡ pos 0 = below_zero a p.0 in
    let m : is_zero u ≡ false = ap (λ b. is_zero (b ∷ u)) (sym e) ∙ n in
    let r : u ≡ unit_vector t j = below_unit t j u m p.1 in
    λ i. e i ∷ r i

-- ---- the matrix with no row

abbrev pub without_rows : ℕ → Matrix
without_rows t = record { cols = t; rows = [] }

bare_in : (t : ℕ) (v : Vector) → length v ≡ t → InLattice (without_rows t) v
bare_in t v l = record { size = omega arith; image = drop_all t v (omega arith) }

unit_element : (t j : ℕ) → j < t → IsBasisElement (without_rows t) (unit_vector t j)
unit_element t j h = (
  record {
    member = bare_in t (unit_vector t j) (length-unit t j);
    nonzero = unit_nonzero t j h;
    least = λ y i n b. below_unit t j y n b;
  },
  unit_leads t j h,
)

-- the first n unit vectors
abbrev pub first_units : ℕ → ℕ → List Vector
first_units t zero = []
first_units t (suc n) = first_units t n ++ unit_vector t n ∷ []

pub length-first_units : (t n : ℕ) → length (first_units t n) ≡ n
length-first_units t zero = refl
length-first_units t (suc n) = omega (arith, length_push (first_units t n) (unit_vector t n), length-first_units t n)

units_are : (t n : ℕ) → All (λ z. (j : ℕ) × (j < n) × (z ≡ unit_vector t j)) (first_units t n)
units_are t zero = All-nil (λ z. (j : ℕ) × (j < 0) × (z ≡ unit_vector t j))
units_are t (suc n) =
    All-push (λ z. (j : ℕ) × (j < suc n) × (z ≡ unit_vector t j)) (first_units t n) (unit_vector t n)
    (All-weaker (λ z. (j : ℕ) × (j < n) × (z ≡ unit_vector t j)) (λ z. (j : ℕ) × (j < suc n) × (z ≡ unit_vector t j))
    (λ z h. (h.0, omega (arith, h.1), h.2)) (first_units t n) (units_are t n))
    (n, omega arith, refl)

pub units_elements : (t : ℕ) → All (IsBasisElement (without_rows t)) (first_units t t)
units_elements t =
    All-weaker (λ z. (j : ℕ) × (j < t) × (z ≡ unit_vector t j)) (IsBasisElement (without_rows t))
    (λ z h. subst (IsBasisElement (without_rows t)) (sym h.2) (unit_element t h.0 h.1)) (first_units t t)
    (units_are t t)

unit_known : (t i j : ℕ) → i < t → j < t → unit_vector t i ≡ unit_vector t j → i ≡ j
unit_known zero i j h k e = absurd (omega arith)
unit_known (suc t) zero zero h k e = refl
unit_known (suc t) zero (suc j) h k e = absurd (cc)
unit_known (suc t) (suc i) zero h k e = absurd (cc)
unit_known (suc t) (suc i) (suc j) h k e = ap suc (unit_known t i j (omega arith) (omega arith) (tails e))
  where
    tails : unit_vector (suc t) (suc i) ≡ unit_vector (suc t) (suc j) → unit_vector t i ≡ unit_vector t j
    tails f = cc

units_differ_upto : (t n : ℕ) → n ≤ t → AreDifferent (first_units t n)
units_differ_upto t zero h = λ i j d before low. absurd (omega arith)
units_differ_upto t (suc n) h =
    all_pairs_push (λ u v. u ≢ v) (first_units t n) (unit_vector t n) (units_differ_upto t n (omega arith))
    (λ k d low e.
    let is = All-get_or (λ z. (j : ℕ) × (j < n) × (z ≡ unit_vector t j)) (first_units t n) k d low (units_are t n) in
    let same : is.0 ≡ n = unit_known t is.0 n (omega (arith, is.1)) (omega arith) (sym is.2 ∙ e) in
    absurd (omega (arith, is.1, same)))

pub units_differ : (t : ℕ) → AreDifferent (first_units t t)
units_differ t = units_differ_upto t t (omega arith)

unit_listed : (t n j : ℕ) → j < n → Contains (first_units t n) (unit_vector t j)
unit_listed t zero j h = absurd (omega arith)
unit_listed t (suc n) j h = elim (cases_eq j n) [
  | inl e ↦ subst (λ k. Contains (first_units t (suc n)) (unit_vector t k)) (sym e)
      (Contains-push (first_units t n) (unit_vector t n))
  | inr other ↦ Contains-append_left (first_units t n) (unit_vector t n ∷ []) (unit_vector t j)
      (unit_listed t n j (omega arith))
]

-- a unit vector or its opposite is below each vector that is not 0
record UnitBelow (t : ℕ) (y : Vector) : Type 0 where
  pub place : ℕ
  pub low : place < t
  pub below : (unit_vector t place ⊑ y) ⊎ (opposite (unit_vector t place) ⊑ y)

unit_below : (t : ℕ) (y : Vector) → length y ≡ t → is_zero y ≡ false → UnitBelow t y
unit_below zero [] e n = absurd (cc)
unit_below zero (a ∷ y) e n = absurd (omega arith)
unit_below (suc t) [] e n = absurd (omega arith)
unit_below (suc t) (pos zero ∷ y) e n =
    let r = unit_below t y (omega arith) n in
    let k : is_between (pos 0) (pos 0) ≡ true = refl in
    record { place = suc r.place; low = omega (arith, r.low); below = elim r.below [ inl b ↦ inl b | inr b ↦ inr b ] }
unit_below (suc t) (pos (suc a) ∷ y) e n =
    let k : is_between (pos 1) (pos (suc a)) ≡ true = grind (arith, nat_tests, ints) in
    record {
      place = 0;
      low = omega arith;
      below = inl (ap (λ s. s && conforms (zeros t) y) k
          ∙ zeros_below t y (omega arith));
    }
unit_below (suc t) (negsuc a ∷ y) e n =
    let k : is_between (negsuc 0) (negsuc a) ≡ true = one_below a in
    record {
      place = 0;
      low = omega arith;
      below = inr (ap (λ s. s && conforms (opposite (zeros t)) y) k
          ∙ subst (λ z. z ⊑ y) (sym (opposite-zeros t)) (zeros_below t y (omega arith)));
    }
  where
    one_below : (a : ℕ) → is_between (negsuc 0) (negsuc a) ≡ true
    one_below a = grind (arith, nat_tests, ints)

pub units_cover : (t : ℕ) → Covers (without_rows t) (first_units t t)
units_cover t y inside nonzero =
    let u = unit_below t y (omega (arith, inside.size)) nonzero in
    elim u.below [
      | inl b ↦ (unit_vector t u.place, inl (unit_listed t t u.place u.low), b)
      | inr b ↦ (
        opposite (unit_vector t u.place),
        inr (subst (Contains (first_units t t)) (sym (opposite-opposite (unit_vector t u.place)))
            (unit_listed t t u.place u.low)),
        b,
      )
    ]
