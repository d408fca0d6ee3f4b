-- Laws of offers: what one step offers, and the best offer while steps are tried one by one.
use Rattle.std.proofs.Common.{◌≡◌, ℕ, ℤ, ◌+◌, ◌<◌, ◌≤◌, ◌≤ℤ◌, ◌⊎◌, inl, inr, List, [], ◌∷◌, ◌++◌, length, take, get_or}
use Rattle.std.proofs.Common.{refl, ap, arith, sym, subst, ◌∙◌, IsTrue, IfSome, Option, Some, None, Vec, Global}
use Rattle.std.specs.List.{AllZip, Contains}
use Rattle.std.specs.Ordering.{is_le, nat_cmp, ordering_then}
use Rattle.std.specs.Cmp.{IsTotalOrder}
use Rattle.std.proofs.lemmas.Bool.{cases_lt}
use Rattle.std.proofs.lemmas.Cmp.{on_total, then_total, nat_cmp_total}
use Rattle.std.proofs.lemmas.List.{take_more}
use Rattle.std.proofs.lemmas.List.Elements.{length_all_zip, Contains-push, Contains-push_cases, Contains-append_left}
use Rattle.lattice_laws.proofs.Rising.{lex_total}
use Rattle.lattice_theory.specs.Vectors.{Vector, lex_cmp}
use Rattle.fold_theory.specs.Programs.{Program, Brick, IsWithin, brick_residual}
use Rattle.run_theory.specs.BrickRuns.{BrickMove, stepped, brick_cmp}
use Rattle.fold_program.specs.Places.{OfBrick, ForBrick}
use Rattle.fold_program.proofs.PlaceLaws.{for_brick}
use Rattle.brick_phase.specs.declared.offers.Place.{Place}
use Rattle.brick_phase.specs.declared.offers.Offer.{Offer}
use Rattle.step_targets.specs.Targets.{AreBetween, Leads}
use Rattle.brick_phase.specs.Offers.{IsPlace, Lowers, IsOffer, IsOfferOf, IsBestOf, Uses, offer_cmp}
use Rattle.brick_phase.proofs.OrderLaws.{le_itself, le_trans}

-- ---- the brick of a number

-- the entries of a place are as many as the columns
pub place_width : (p : Program) (i n : ℕ) (lower : Vector) (a : Place) → length lower ≡ n →
    OfBrick p i (λ b. lower ≡ b.lower) →
    ForBrick p i (λ b. IsPlace p b a) → length a.point.items ≡ n
place_width p i n lower a size (b, there, is) place =
    omega (arith, size, ap length is, length_all_zip ◌≤ℤ◌ b.lower a.point.items (place b there).within.0)

-- ---- one step

module _ (p : Program) (i : ℕ) (lower upper : Vector) (low : OfBrick p i (λ b. lower ≡ b.lower))
    (high : OfBrick p i (λ b. upper ≡ b.upper)) where
  within_brick : (v : Vector) → AreBetween lower upper v → ForBrick p i (λ b. IsWithin b v)
  within_brick v between b there = (
    subst (λ l. AllZip ◌≤ℤ◌ l v) (for_brick p i (λ b. lower ≡ b.lower) low b there) between.0,
    subst (λ u. AllZip ◌≤ℤ◌ v u) (for_brick p i (λ b. upper ≡ b.upper) high b there) between.1,
  )

  between_bounds : (v : Vector) → ForBrick p i (λ b. IsWithin b v → AreBetween lower upper v)
  between_bounds v b there within = (
    subst (λ l. AllZip ◌≤ℤ◌ l v) (sym (for_brick p i (λ b. lower ≡ b.lower) low b there)) within.0,
    subst (λ u. AllZip ◌≤ℤ◌ v u) (sym (for_brick p i (λ b. upper ≡ b.upper) high b there)) within.1,
  )

  -- where it leads out of the bounds, a step offers nothing
  pub nothing_outside : (v : Vector) (m : BrickMove) (end : Option (Vec ℤ Global)) →
      Leads lower upper (stepped v m) end → end ≡ None →
      ForBrick p i (λ b. IsOfferOf p b v m None)
  nothing_outside v m end leads none b there lowers =
      let outside : Leads lower upper (stepped v m) None = subst (Leads lower upper (stepped v m)) none leads in
      outside (between_bounds (stepped v m) b there lowers.within)

  -- where it leads
  pub led : (v : Vector) (m : BrickMove) (end : Option (Vec ℤ Global)) (point : Vec ℤ Global) →
      Leads lower upper (stepped v m) end → end ≡ Some point →
      AreBetween lower upper (stepped v m) × (point.items ≡ stepped v m)
  led v m end point leads is = subst (Leads lower upper (stepped v m)) is leads

  -- where the residual is not lower, a step offers nothing
  pub nothing_lower : (a : Place) (m : BrickMove) (end : Vector) (residual : ℕ) → end ≡ stepped a.point.items m →
      OfBrick p i (λ b. residual ≡ brick_residual p b end) → ForBrick p i (λ b. IsPlace p b a) → a.residual ≤ residual →
      ForBrick p i (λ b. IsOfferOf p b a.point.items m None)
  nothing_lower a m end residual is own place not_lower b there lowers =
      let its : residual ≡ brick_residual p b end = for_brick p i (λ b. residual ≡ brick_residual p b end) own b
      there in
      absurd (omega (arith, its, ap (brick_residual p b) is, (place b there).residual, lowers.lowers, not_lower))

  -- else the step offers the place to which it leads
  pub offered : (a : Place) (m : BrickMove) (end : Option (Vec ℤ Global)) (o : Offer) →
      Leads lower upper (stepped a.point.items m) end →
      end ≡ Some o.place.point → OfBrick p i (λ b. o.place.residual ≡ brick_residual p b o.place.point.items) →
      ForBrick p i (λ b. IsPlace p b a) →
      o.place.residual < a.residual → o.step ≡ m → ForBrick p i (λ b. IsOfferOf p b a.point.items m (Some o))
  offered a m end o leads is own place lower_now step b there =
      let to = led a.point.items m end o.place.point leads is in
      let same : stepped a.point.items m ≡ stepped a.point.items o.step = ap (stepped a.point.items) (sym step) in
      let its : o.place.residual ≡ brick_residual p b (stepped a.point.items o.step) =
      for_brick p i (λ b. o.place.residual ≡ brick_residual p b o.place.point.items) own b there
      ∙ ap (brick_residual p b) (to.1 ∙ same) in (
        step,
        record {
          lowers = record {
            within = subst (IsWithin b) same (within_brick (stepped a.point.items m) to.0 b there);
            lowers = omega (arith, its, (place b there).residual, lower_now);
          };
          point = to.1 ∙ same;
          residual = its;
        },
      )

-- ---- the best of the steps that were tried

module _ (p : Program) (b : Brick) (v : Vector) where
  brick_total : IsTotalOrder (brick_cmp p b v)
  brick_total =
      then_total (on_total (λ (m : BrickMove). brick_residual p b (stepped v m)) nat_cmp_total)
      (then_total (on_total (λ (m : BrickMove). m.k) nat_cmp_total) (on_total (λ (m : BrickMove). m.vector) lex_total))

  -- offers are ordered as their steps
  offer_cmp-steps : (x y : Offer) → IsOffer p b v x → IsOffer p b v y → offer_cmp x y ≡ brick_cmp p b v x.step y.step
  offer_cmp-steps x y first second =
      ap (λ r. ordering_then (nat_cmp r y.place.residual) (ordering_then (nat_cmp x.step.k y.step.k)
      (lex_cmp x.step.vector y.step.vector))) first.residual
      ∙ ap (λ r. ordering_then (nat_cmp (brick_residual p b (stepped v x.step)) r)
      (ordering_then (nat_cmp x.step.k y.step.k) (lex_cmp x.step.vector y.step.vector))) second.residual

  -- the steps are those from before and one more
  abbrev pub AddsStep : (BrickMove → Type 0) → BrickMove → (BrickMove → Type 0) → Type 0
  AddsStep Old m New = ((n : BrickMove) → Old n → New n) × New m × ((n : BrickMove) → New n → Old n ⊎ (n ≡ m))

  -- where the new step offers nothing, the best one stays
  pub IsBestOf-nothing : (Old New : BrickMove → Type 0) (m : BrickMove) (best : Option Offer) → AddsStep Old m New →
      IsOfferOf p b v m None →
      IsBestOf p b v Old best → IsBestOf p b v New best
  IsBestOf-nothing Old New m None adds nothing so_far =
      λ n new lowers. elim (adds.2 n new) [
        | inl old ↦ so_far n old lowers
        | inr same ↦ nothing (subst (Lowers p b v) same lowers)
      ]
  IsBestOf-nothing Old New m (Some o) adds nothing so_far = (
    adds.0 o.step so_far.0,
    so_far.1,
    λ n new lowers. elim (adds.2 n new) [
      | inl old ↦ so_far.2 n old lowers
      | inr same ↦ absurd (nothing (subst (Lowers p b v) same lowers))
    ],
  )

  -- the new offer, where it comes first
  first_new : (Old New : BrickMove → Type 0) (m : BrickMove) (best : Option Offer) (o : Offer) → AddsStep Old m New →
      IsOfferOf p b v m (Some o) →
      IfSome best (λ x. IsTrue (is_le (offer_cmp o x))) → IsBestOf p b v Old best → IsBestOf p b v New (Some o)
  first_new Old New m None o adds offer first so_far = (
    subst New (sym offer.0) adds.1,
    offer.1,
    λ n new lowers. elim (adds.2 n new) [
      | inl old ↦ absurd (so_far n old lowers)
      | inr same ↦ subst (λ x. IsTrue (is_le (brick_cmp p b v o.step x))) (offer.0 ∙ sym same)
          (le_itself brick_total o.step)
    ],
  )
  first_new Old New m (Some x) o adds offer first so_far = (
    subst New (sym offer.0) adds.1,
    offer.1,
    λ n new lowers. elim (adds.2 n new) [
      | inl old ↦
          le_trans brick_total o.step x.step n (subst (λ r. IsTrue (is_le r)) (offer_cmp-steps o x offer.1 so_far.1)
          first) (so_far.2 n old lowers)
      | inr same ↦ subst (λ y. IsTrue (is_le (brick_cmp p b v o.step y))) (offer.0 ∙ sym same)
          (le_itself brick_total o.step)
    ],
  )

  -- the old one, where it does
  first_old : (Old New : BrickMove → Type 0) (m : BrickMove) (x o : Offer) → AddsStep Old m New →
      IsOfferOf p b v m (Some o) →
      IsTrue (is_le (offer_cmp x o)) → IsBestOf p b v Old (Some x) → IsBestOf p b v New (Some x)
  first_old Old New m x o adds offer first so_far = (
    adds.0 x.step so_far.0,
    so_far.1,
    λ n new lowers. elim (adds.2 n new) [
      | inl old ↦ so_far.2 n old lowers
      | inr same ↦
          subst (λ y. IsTrue (is_le (brick_cmp p b v x.step y))) (offer.0 ∙ sym same)
          (subst (λ r. IsTrue (is_le r)) (offer_cmp-steps x o so_far.1 offer.1) first)
    ],
  )

  -- the first of the best offer and a new one is the best
  pub IsBestOf-earlier : (Old New : BrickMove → Type 0) (m : BrickMove) (best : Option Offer) (o first : Offer) →
      AddsStep Old m New →
      IsOfferOf p b v m (Some o) → (first ≡ o) ⊎ (best ≡ Some first) → IsTrue (is_le (offer_cmp first o)) →
      IfSome best (λ x. IsTrue (is_le (offer_cmp first x))) → IsBestOf p b v Old best → IsBestOf p b v New (Some first)
  IsBestOf-earlier Old New m best o first adds offer (inl is) before_new before_old so_far =
      subst (λ x. IsBestOf p b v New (Some x)) (sym is)
      (first_new Old New m best o adds offer (subst (λ y. IfSome best (λ x. IsTrue (is_le (offer_cmp y x)))) is
      before_old) so_far)
  IsBestOf-earlier Old New m best o first adds offer (inr is) before_new before_old so_far =
      first_old Old New m first o adds offer before_new (subst (IsBestOf p b v Old) is so_far)

  -- the best of some steps is the best of the same steps
  pub IsBestOf-same : (Old New : BrickMove → Type 0) (best : Option Offer) → ((n : BrickMove) → Old n → New n) →
      ((n : BrickMove) → New n → Old n) →
      IsBestOf p b v Old best → IsBestOf p b v New best
  IsBestOf-same Old New None to from so_far = λ n new lowers. so_far n (from n new) lowers
  IsBestOf-same Old New (Some o) to from so_far = (
    to o.step so_far.0,
    so_far.1,
    λ n new lowers. so_far.2 n (from n new) lowers,
  )

-- ---- steps, vector by vector and length by length

-- the steps with the vectors before place j, and those with this vector and a length before k
abbrev pub Tried : List Vector → ℕ → ℕ → Vector → ℕ → BrickMove → Type 0
Tried vs lengths j u k m = Uses (take j vs) lengths m ⊎ ((m.vector ≡ u) × (m.k < k))

-- one more length
pub Tried-more : (p : Program) (b : Brick) (v : Vector) (vs : List Vector) (lengths j : ℕ) (u : Vector) (k : ℕ) →
    AddsStep p b v (Tried vs lengths j u k) (record { k = k; vector = u }) (Tried vs lengths j u (k + 1))
Tried-more p b v vs lengths j u k = (
  λ n old. elim old [
    | inl before ↦ inl before
    | inr now ↦ inr (now.0, omega (arith, now.1))
  ],
  inr (refl, omega arith),
  λ n new. elim new [
    | inl before ↦ inl (inl before)
    | inr now ↦ elim (cases_lt n.k k) [
      | inl low ↦ inl (inr (now.0, low))
      | inr high ↦
          let same : n.k ≡ k = omega (arith, now.1, high) in
          inr (λ t. record { k = same t; vector = now.0 t })
    ]
  ],
)

-- no length of the next vector yet
pub Tried-none : (vs : List Vector) (lengths j : ℕ) (u : Vector) (m : BrickMove) → Tried vs lengths j u 0 m →
    Uses (take j vs) lengths m
Tried-none vs lengths j u m (inl before) = before
Tried-none vs lengths j u m (inr now) = absurd (omega (arith, now.1))

-- all lengths of this vector
pub Tried-all : (vs : List Vector) (lengths j : ℕ) (u : Vector) (m : BrickMove) → j < length vs → get_or vs j [] ≡ u →
    Tried vs lengths j u lengths m →
    Uses (take (j + 1) vs) lengths m
Tried-all vs lengths j u m low is (inl before) = (
  subst (λ us. Contains us m.vector) (sym (take_more vs j [] low)) (Contains-append_left (take j vs) (get_or vs j []
      ∷ []) m.vector before.0),
  before.1,
)
Tried-all vs lengths j u m low is (inr now) = (
  subst (λ us. Contains us m.vector) (sym (take_more vs j [] low))
      (subst (Contains (take j vs ++ get_or vs j [] ∷ [])) (is ∙ sym now.0)
      (Contains-push (take j vs) (get_or vs j []))),
  now.1,
)

pub Tried-from_all : (vs : List Vector) (lengths j : ℕ) (u : Vector) (m : BrickMove) → j < length vs →
    get_or vs j [] ≡ u →
    Uses (take (j + 1) vs) lengths m → Tried vs lengths j u lengths m
Tried-from_all vs lengths j u m low is uses =
    elim (Contains-push_cases (take j vs) (get_or vs j []) m.vector
    (subst (λ us. Contains us m.vector) (take_more vs j [] low) uses.0)) [
      | inl before ↦ inl (before, uses.1)
      | inr now ↦ inr (sym now ∙ is, uses.1)
    ]
