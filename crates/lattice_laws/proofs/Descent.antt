-- The completion step by one new entry, over what it needs of vectors, their entries before the new one
-- (the cut) and the new entry: where each sum of two signed members that agree in the cut and clash in the
-- new entry has a signed member below it, so has every vector.
--
-- A vector is taken in two parts whose cuts are below its own. Where the new entries of the parts agree, the
-- lighter part's member serves. Where they clash, a member below one of the parts gives two parts whose new
-- entries are smaller; where each part is a member itself, the vector is such a sum.
use Rattle.std.proofs.Common.{◌≡◌, ℕ, zero, suc, ◌+◌, ◌<◌, ◌≤◌, ℤ, ◌-ℤ◌, refl, ap, arith, ◌⊎◌, inl, inr, unsigned_abs}
use Rattle.std.proofs.Common.{subst}
use Rattle.std.proofs.lemmas.Int.{ints}
use borrow.Author.Differences.{up, down}
use Rattle.lattice_laws.proofs.Signs.{IsPart, clash, one_zero, abs_parts}

-- what the step needs: `Cut u v` and `Full u v` say that u is below v in the cut, and in the new entry too
pub record Stage (V : Type 0) : Type 1 where
  pub sub : V → V → V
  pub NonZero : V → Type 0
  pub size : V → ℕ
  pub new : V → ℤ
  pub Cut : V → V → Type 0
  pub Full : V → V → Type 0
  pub same : (u v : V) → (u ≡ v) ⊎ (u ≡ v → ⊥)
  pub full_refl : (u : V) → NonZero u → Full u u
  pub full_trans : (u v w : V) → Full u v → Full v w → Full u w
  pub cut_trans : (u v w : V) → Cut u v → Cut v w → Cut u w
  pub full_cut : (u v : V) → Full u v → Cut u v
  pub full_new : (u v : V) → Full u v → IsPart (new u) (new v)
  pub full_rest : (u v : V) → Full u v → Full (sub v u) v
  pub smaller : (p y : V) → Cut p y → (p ≡ y → ⊥) → size p < size y
  pub not_smaller : (p y : V) → Cut p y → size p ≤ size y
  pub rest_cut : (p y : V) → Cut p y → Cut (sub y p) y
  pub rest_nonzero : (p y : V) → Cut p y → (p ≡ y → ⊥) → NonZero (sub y p)
  pub rest_differs : (p y : V) → Cut p y → NonZero p → sub y p ≡ y → ⊥
  pub back : (p y : V) → Cut p y → sub y (sub y p) ≡ p
  pub new_sub : (p y : V) → Cut p y → new (sub y p) ≡ (new y -ℤ new p)
  pub agree_full : (p y : V) → Cut p y → clash (new p) (new (sub y p)) ≡ 0 → Full p y

none_or_some : (n : ℕ) → (n ≡ 0) ⊎ (0 < n)
none_or_some zero = inl refl
none_or_some (suc n) = inr (omega arith)

module _ {V : Type 0} (F : Stage V) where
  -- the new entries of p and of what is left of y
  abbrev pub weight : V → V → ℕ
  weight p y = unsigned_abs (F.new p) + unsigned_abs (F.new (F.sub y p))

  -- a part of y that takes it apart with a smaller weight than p does
  pub record Lighter (p y : V) : Type 0 where
    pub part : V
    pub nonzero : F.NonZero part
    pub proper : part ≡ y → ⊥
    pub cut : F.Cut part y
    pub lighter : weight part y < weight p y

  -- one of those in L is below y
  abbrev pub Below : (V → Type 0) → V → Type 0
  Below L y = (e : V) × L e × F.Full e y

-- ---- numbers

-- P and Q clash, A and D are parts of P that make it: A and what is left beside it are smaller
drop_first : (P Q A D R Y : ℤ) → Q ≡ (Y -ℤ P) → D ≡ (P -ℤ A) → R ≡ (Y -ℤ A) → IsPart A P → IsPart D P → 0 < clash P Q →
    0 < unsigned_abs D →
    unsigned_abs A + unsigned_abs R < unsigned_abs P + unsigned_abs Q
drop_first P Q A D R Y q d r ap dp c n =
    omega (
      arith,
      ints,
      q,
      d,
      r,
      ap.ups,
      ap.downs,
      dp.ups,
      dp.downs,
      c,
      n,
      one_zero P,
      one_zero Q,
      one_zero A,
      one_zero D,
      one_zero R,
      abs_parts P,
      abs_parts Q,
      abs_parts A,
      abs_parts D,
      abs_parts R,
    )

drop_second : (P Q D S Y : ℤ) → Q ≡ (Y -ℤ P) → S ≡ (Y -ℤ D) → 0 < clash P Q → unsigned_abs D ≡ 0 →
    unsigned_abs D + unsigned_abs S < unsigned_abs P + unsigned_abs Q
drop_second P Q D S Y q s c n =
    omega (
      arith,
      ints,
      q,
      s,
      c,
      n,
      one_zero P,
      one_zero Q,
      one_zero D,
      one_zero S,
      abs_parts P,
      abs_parts Q,
      abs_parts D,
      abs_parts S,
    )

-- ---- the step

-- a vector below a part that clashes with the rest gives a lighter part
descent : {V : Type 0} (F : Stage V) (p y e : V) → F.Cut p y → (p ≡ y → ⊥) → F.NonZero e → (e ≡ p → ⊥) → F.Full e p →
    0 < clash (F.new p) (F.new (F.sub y p)) → Lighter F p y
descent F p y e cut proper nonzero other below c =
    let d = F.sub p e in
    let ecut : F.Cut e y = F.cut_trans e p y (F.full_cut e p below) cut in
    let dcut : F.Cut d y = F.cut_trans d p y (F.rest_cut e p (F.full_cut e p below)) cut in
    let small : F.size p < F.size y = F.smaller p y cut proper in
    elim (none_or_some (unsigned_abs (F.new d))) [
      | inr n ↦ record {
        part = e;
        nonzero = nonzero;
        proper = λ s. absurd (omega (arith, small, F.not_smaller e p (F.full_cut e p below), ap F.size s));
        cut = ecut;
        lighter = drop_first (F.new p) (F.new (F.sub y p)) (F.new e) (F.new d) (F.new (F.sub y e)) (F.new y)
            (F.new_sub p y cut) (F.new_sub e p (F.full_cut e p below)) (F.new_sub e y ecut) (F.full_new e p below)
            (F.full_new d p (F.full_rest e p below)) c n;
      }
      | inl z ↦ record {
        part = d;
        nonzero = F.rest_nonzero e p (F.full_cut e p below) other;
        proper = λ s. absurd (omega (
          arith,
          small,
          F.not_smaller d p (F.rest_cut e p (F.full_cut e p below)),
          ap F.size s,
        ));
        cut = dcut;
        lighter = drop_second (F.new p) (F.new (F.sub y p)) (F.new d) (F.new (F.sub y d)) (F.new y)
            (F.new_sub p y cut) (F.new_sub d y dcut) c z;
      }
    ]

-- what the inner claim is given: the members are not 0, smaller vectors are covered, and so is y where it is
-- the sum of two members that clash
record Given {V : Type 0} (F : Stage V) (L : V → Type 0) (y : V) : Type 0 where
  pub nonzero : (e : V) → L e → F.NonZero e
  pub smaller : (z : V) → F.NonZero z → F.size z < F.size y → Below F L z
  pub pairs : (p : V) → L p → L (F.sub y p) → F.Cut p y → 0 < clash (F.new p) (F.new (F.sub y p)) → Below F L y

weight_turned : {V : Type 0} (F : Stage V) (p y : V) → F.Cut p y → weight F (F.sub y p) y ≡ weight F p y
weight_turned F p y cut = let e : F.new (F.sub y (F.sub y p)) ≡ F.new p = ap F.new (F.back p y cut) in
    omega (arith, ap unsigned_abs e)

clash_turned : {V : Type 0} (F : Stage V) (p y : V) → F.Cut p y →
    clash (F.new p) (F.new (F.sub y p)) ≡ clash (F.new (F.sub y p)) (F.new (F.sub y (F.sub y p)))
clash_turned F p y cut = let e : F.new (F.sub y (F.sub y p)) ≡ F.new p = ap F.new (F.back p y cut) in
    omega (arith, ap up e, ap down e)

-- a vector that has a proper part has a member below it, by the weight of the part
inner : {V : Type 0} (F : Stage V) (L : V → Type 0) (y : V) → Given F L y →
    (k : ℕ) (p : V) → F.NonZero p → (p ≡ y → ⊥) → F.Cut p y → weight F p y < k → Below F L y
inner F L y g zero p nonzero proper cut fits = absurd (omega (arith, fits))
inner F L y g (suc k) p nonzero proper cut fits =
    let q = F.sub y p in
    let qcut : F.Cut q y = F.rest_cut p y cut in
    let qproper : q ≡ y → ⊥ = F.rest_differs p y cut nonzero in
    let m = g.smaller p nonzero (F.smaller p y cut proper) in
    elim (none_or_some (clash (F.new p) (F.new q))) [
      | inl z ↦ (m.0, m.1, F.full_trans m.0 p y m.2 (F.agree_full p y cut z))
      | inr c ↦
          let n = g.smaller q (F.rest_nonzero p y cut proper) (F.smaller q y qcut qproper) in
          elim (F.same m.0 p) [
            | inr other ↦
                let l = descent F p y m.0 cut proper (g.nonzero m.0 m.1) other m.2 c in
                inner F L y g k l.part l.nonzero l.proper l.cut (omega (arith, fits, l.lighter))
            | inl mp ↦ elim (F.same n.0 q) [
              | inr other ↦
                  let l = descent F q y n.0 qcut qproper (g.nonzero n.0 n.1) other n.2
                  (omega (arith, c, clash_turned F p y cut)) in
                  inner F L y g k l.part l.nonzero l.proper l.cut (omega (
                    arith,
                    fits,
                    l.lighter,
                    weight_turned F p y cut,
                  ))
              | inl nq ↦ g.pairs p (subst L mp m.1) (subst L nq n.1) cut c
            ]
          ]
    ]

-- every vector whose cut is covered and of size below the bound has a member below it
pub descended : {V : Type 0} (F : Stage V) (L : V → Type 0) (bound : ℕ) →
    ((e : V) → L e → F.NonZero e) →
    ((y : V) → F.NonZero y → (e : V) × L e × F.Cut e y) →
    ((y p : V) → F.size y < bound → L p → L (F.sub y p) → F.Cut p y → 0 < clash (F.new p) (F.new (F.sub y p)) →
    Below F L y) →
    (n : ℕ) (y : V) → F.NonZero y → F.size y < n → F.size y < bound → Below F L y
descended F L bound nonzero covers pairs zero y ny fits small = absurd (omega (arith, fits))
descended F L bound nonzero covers pairs (suc n) y ny fits small =
    let m = covers y ny in
    let g : Given F L y = record {
      nonzero = nonzero;
      smaller = λ z nz lt. descended F L bound nonzero covers pairs n z nz (omega (arith, lt, fits))
          (omega (arith, lt, small));
      pairs = λ p lp lq cut c. pairs y p small lp lq cut c;
    } in
    elim (F.same m.0 y) [
      | inl e ↦ (m.0, m.1, subst (λ z. F.Full m.0 z) e (F.full_refl m.0 (nonzero m.0 m.1)))
      | inr other ↦ inner F L y g (suc (weight F m.0 y)) m.0 (nonzero m.0 m.1) other m.2 (omega arith)
    ]
