-- Values of costs, as the code computes them: each part fits 128 bits.
use Rattle.std.proofs.Common.{◌≡◌, ◌+◌, ◌*◌, ◌^◌, ◌≤◌, ℤ, ◌+ℤ◌, ◌-ℤ◌, ◌*ℤ◌, unsigned_abs, FitsSigned, w64, subst, ap}
use Rattle.std.proofs.Common.{arith, sym, ◌∙◌}
use Rattle.std.specs.Int.{w128}
use Rattle.std.proofs.lemmas.Int.{ints, unsigned_abs-mul}
use Rattle.std.proofs.Math.Nat.{mul-le-mul}
use Rattle.fold_theory.specs.declared.Breakpoint.{Breakpoint}
use Rattle.lattice_laws.proofs.Tests.{is_bounded_true}
use Rattle.convex_costs.specs.Bounds.{terms, IsBoundedPoint}
use Rattle.convex_costs.proofs.Numbers.{fits_64, fits_128, narrow, wide, wide_is, narrow_is}

-- ---- on a line: a value, and a slope times a run

-- how large the slope and the run can be
pub record IsStretch (s d : ℤ) : Type 0 where
  pub slope : unsigned_abs s ≤ 2 ^ 63
  pub run : unsigned_abs d ≤ 2 ^ 63 + 2 ^ 62

-- the slope between bounded breakpoints, and the way from the first one to a number of 64 bits
pub stretch_of : (p q : Breakpoint) (v s d : ℤ) → IsBoundedPoint p → IsBoundedPoint q → FitsSigned w64 v →
    unsigned_abs s ≤ unsigned_abs (q.value -ℤ p.value) → d ≡ v -ℤ p.at → IsStretch s d
stretch_of p q v s d left right fits slope run =
    let from = is_bounded_true p.at left.0 in
    let low = is_bounded_true p.value left.1 in
    let high = is_bounded_true q.value right.1 in
    record { slope = omega (arith, ints, slope, low, high); run = omega (arith, ints, run, from, fits) }

module _ (s d : ℤ) (is : IsStretch s d) where
  -- the product is less than 2 ^ 127
  rise_small : unsigned_abs (s *ℤ d) ≤ 2 ^ 63 * (2 ^ 63 + 2 ^ 62)
  rise_small =
      let product : unsigned_abs s * unsigned_abs d ≤ 2 ^ 63 * (2 ^ 63 + 2 ^ 62) = mul-le-mul is.slope is.run in
      omega (arith, unsigned_abs-mul s d, product)

  rise_is : wide s *ℤ wide d ≡ s *ℤ d
  rise_is =
      let slope = wide_is s (omega (arith, is.slope)) in
      let run = wide_is d (omega (arith, is.run)) in
      λ i. slope i *ℤ run i

  pub rise_fits : FitsSigned w128 (wide s *ℤ wide d)
  rise_fits = subst (FitsSigned w128) (sym rise_is) (fits_128 (s *ℤ d) (omega (arith, rise_small)))

  module _ (a : ℤ) (small : unsigned_abs a ≤ 2 ^ 62) where
    sum_is : wide (narrow a) +ℤ wide (wide s *ℤ wide d) ≡ a +ℤ s *ℤ d
    sum_is =
        let first = narrow_is a (fits_64 a small) in
        let rise = ap wide rise_is ∙ wide_is (s *ℤ d) (omega (arith, rise_small)) in
        λ i. first i +ℤ rise i

    pub sum_fits : FitsSigned w128 (wide (narrow a) +ℤ wide (wide s *ℤ wide d))
    sum_fits = subst (FitsSigned w128) (sym sum_is) (fits_128 (a +ℤ s *ℤ d) (omega (arith, ints, small, rise_small)))

    pub sum_read : wide (wide (narrow a) +ℤ wide (wide s *ℤ wide d)) ≡ a +ℤ s *ℤ d
    sum_read = ap wide sum_is ∙ wide_is (a +ℤ s *ℤ d) (omega (arith, ints, small, rise_small))

-- ---- a quadratic value

-- the square's term, the linear term and the first two of them, as the code computes them
abbrev square_term : ℤ → ℤ → ℤ
square_term a v = wide (narrow a) *ℤ wide (wide (narrow v) *ℤ wide (narrow v))

abbrev linear_term : ℤ → ℤ → ℤ
linear_term b v = wide (narrow b) *ℤ wide (narrow v)

abbrev two_terms : ℤ → ℤ → ℤ → ℤ
two_terms a b v = wide (square_term a v) +ℤ wide (linear_term b v)

module _ (a b c v : ℤ) (fits_a : FitsSigned w64 a) (fits_b : FitsSigned w64 b) (fits_c : FitsSigned w64 c)
    (fits_v : FitsSigned w64 v) (small : terms a b c (unsigned_abs v) ≤ 2 ^ 120) where
  square_abs : unsigned_abs (a *ℤ (v *ℤ v)) ≡ unsigned_abs a * (unsigned_abs v * unsigned_abs v)
  square_abs = unsigned_abs-mul a (v *ℤ v) ∙ ap (λ n. unsigned_abs a * n) (unsigned_abs-mul v v)

  line_abs : unsigned_abs (b *ℤ v) ≡ unsigned_abs b * unsigned_abs v
  line_abs = unsigned_abs-mul b v

  square_small : unsigned_abs (v *ℤ v) ≤ 2 ^ 126
  square_small =
      let width : unsigned_abs v ≤ 2 ^ 63 = omega (arith, ints, fits_v) in
      let square : unsigned_abs v * unsigned_abs v ≤ 2 ^ 63 * 2 ^ 63 = mul-le-mul width width in
      omega (arith, unsigned_abs-mul v v, square)

  square_is : square_term a v ≡ a *ℤ (v *ℤ v)
  square_is =
      let factor = narrow_is a fits_a in
      let number = narrow_is v fits_v in
      let square = (λ i. wide (number i *ℤ number i)) ∙ wide_is (v *ℤ v) (omega (arith, square_small)) in
      λ i. factor i *ℤ square i

  linear_is : linear_term b v ≡ b *ℤ v
  linear_is =
      let factor = narrow_is b fits_b in
      let number = narrow_is v fits_v in
      λ i. factor i *ℤ number i

  two_are : two_terms a b v ≡ a *ℤ (v *ℤ v) +ℤ b *ℤ v
  two_are =
      let square = ap wide square_is ∙ wide_is (a *ℤ (v *ℤ v)) (omega (arith, square_abs, small)) in
      let line = ap wide linear_is ∙ wide_is (b *ℤ v) (omega (arith, line_abs, small)) in
      λ i. square i +ℤ line i

  three_are : wide (two_terms a b v) +ℤ wide (narrow c) ≡ a *ℤ (v *ℤ v) +ℤ b *ℤ v +ℤ c
  three_are =
      let two = ap wide two_are ∙ wide_is (a *ℤ (v *ℤ v) +ℤ b *ℤ v) (omega (
        arith,
        ints,
        square_abs,
        line_abs,
        small,
      )) in
      let last = narrow_is c fits_c in
      λ i. two i +ℤ last i

  pub two_terms_fit : FitsSigned w128 (two_terms a b v)
  two_terms_fit =
      subst (FitsSigned w128) (sym two_are)
      (fits_128 (a *ℤ (v *ℤ v) +ℤ b *ℤ v) (omega (arith, ints, square_abs, line_abs, small)))

  pub three_terms_fit : FitsSigned w128 (wide (two_terms a b v) +ℤ wide (narrow c))
  three_terms_fit =
      subst (FitsSigned w128) (sym three_are)
      (fits_128 (a *ℤ (v *ℤ v) +ℤ b *ℤ v +ℤ c) (omega (arith, ints, square_abs, line_abs, small)))

  pub quadratic_read : wide (wide (two_terms a b v) +ℤ wide (narrow c)) ≡ a *ℤ (v *ℤ v) +ℤ b *ℤ v +ℤ c
  quadratic_read =
      ap wide three_are ∙ wide_is (a *ℤ (v *ℤ v) +ℤ b *ℤ v +ℤ c) (omega (arith, ints, square_abs, line_abs, small))
