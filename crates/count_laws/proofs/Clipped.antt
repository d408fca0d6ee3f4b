-- Absolute values that count up to a bound: what is left of a vector over the greatest multiple of a narrow one below
-- it counts less than the vector.
use Rattle.std.proofs.Common.{◌≡◌, ℕ, suc, ◌+◌, ◌*◌, ◌<◌, ◌≤◌, min, ℤ, pos, ◌-ℤ◌, ◌*ℤ◌, unsigned_abs, Bool, true, false}
use Rattle.std.proofs.Common.{◌&&◌, List, [], ◌∷◌, length, map, refl, ap, arith, ◌∙◌, inl, inr}
use Rattle.std.proofs.lemmas.Int.{unsigned_abs-mul}
use Rattle.std.proofs.lemmas.Bool.{cases_lt}
use Rattle.std.specs.List.{AllByRecursion, AllZip}
use Rattle.lattice_theory.specs.Vectors.{Vector, ◌⊑◌, conforms, is_between, sub, scale}
use Rattle.lattice_laws.proofs.Tests.{and_true, not_both}
use Rattle.lattice_laws.proofs.Signs.{abs_split}
use Rattle.fold_theory.specs.Programs.{Bricks}
use Rattle.lattice_laws.proofs.Multiples.{between_times}
use Rattle.lattice_laws.specs.VectorLists.{AreSized}
use Rattle.piece_laws.specs.Points.{back}
use Rattle.lattice_theory.specs.Lists.{all_zip}
use Rattle.std.proofs.Math.Nat.{le-mul_of_pos_right}

-- ---- numbers

-- no entry is more than this in absolute value
abbrev pub IsNarrow : ℕ → Vector → Type 0
IsNarrow most v = AllByRecursion (λ a. unsigned_abs a ≤ most) v

-- what is left over the greatest multiple
left_less : (most m a b rest : ℕ) → 1 ≤ m → a ≤ most → b ≡ m * a + rest → b < suc m * a →
    suc (min most rest) ≤ min most b
left_less most m a b rest some low is high =
    let next : suc m * a ≡ m * a + a = grind arith in
    let each : a ≤ a * m = le-mul_of_pos_right a some in
    let turned : a * m ≡ m * a = grind arith in
    omega (arith, low, is, high, next, each, turned)

entry_less : (most m : ℕ) (a b : ℤ) → 1 ≤ m → unsigned_abs a ≤ most → is_between a b ≡ true →
    is_between (pos m *ℤ a) b ≡ true → is_between (pos (suc m) *ℤ a) b ≡ false →
    suc (min most (unsigned_abs (b -ℤ pos m *ℤ a))) ≤ min most (unsigned_abs b)
entry_less most m a b some low part fits over = elim (cases_lt (unsigned_abs b) (suc m * unsigned_abs a)) [
  | inl high ↦
      left_less most m (unsigned_abs a) (unsigned_abs b) (unsigned_abs (b -ℤ pos m *ℤ a)) some low
      (omega (arith, abs_split b (pos m *ℤ a) fits, unsigned_abs-mul (pos m) a)) high
  | inr more ↦
      absurd (not_both (is_between (pos (suc m) *ℤ a) b)
      (between_times (suc m) a b part (omega (arith, more))) over)
]

entry_no_more : (most : ℕ) (a b : ℤ) → is_between a b ≡ true →
    min most (unsigned_abs (b -ℤ a)) ≤ min most (unsigned_abs b)
entry_no_more most a b part = omega (arith, abs_split b a part)

-- ---- vectors

-- the absolute values, each counted up to the bound
abbrev pub clipped : ℕ → Vector → ℕ
clipped most [] = 0
clipped most (a ∷ v) = min most (unsigned_abs a) + clipped most v

-- each entry counts at most the bound
pub clipped_most : (most : ℕ) (v : Vector) → clipped most v ≤ length v * most
clipped_most most [] = omega arith
clipped_most most (a ∷ v) =
    let next : suc (length v) * most ≡ length v * most + most = grind arith in omega (arith, clipped_most most v, next)

-- what is left over a part counts no more
pub clipped_no_more : (most : ℕ) (u v : Vector) → u ⊑ v → clipped most (sub v u) ≤ clipped most v
clipped_no_more most [] [] below = omega arith
clipped_no_more most [] (b ∷ v) below = absurd (cc)
clipped_no_more most (a ∷ u) [] below = absurd (cc)
clipped_no_more most (a ∷ u) (b ∷ v) below =
    let p = and_true (is_between a b) (conforms u v) below in
    omega (arith, entry_no_more most a b p.0, clipped_no_more most u v p.1)

module _ (most m : ℕ) (some : 1 ≤ m) where
  -- and less over the greatest multiple of a narrow part
  pub clipped_less : (u v : Vector) → IsNarrow most u → u ⊑ v → scale (pos m) u ⊑ v →
      conforms (scale (pos (suc m)) u) v ≡ false → suc (clipped most (sub v (scale (pos m) u))) ≤ clipped most v
  clipped_less [] [] narrow below fits over = absurd (cc)
  clipped_less [] (b ∷ v) narrow below fits over = absurd (cc)
  clipped_less (a ∷ u) [] narrow below fits over = absurd (cc)
  clipped_less (a ∷ u) (b ∷ v) narrow below fits over =
      let p = and_true (is_between a b) (conforms u v) below in
      let q = and_true (is_between (pos m *ℤ a) b) (conforms (scale (pos m) u) v) fits in
      by (is_between (pos (suc m) *ℤ a) b) refl over p.0 q.0 q.1
      (λ k. clipped_less u v narrow.1 p.1 q.1 k)
    where
      by : (t : Bool) → is_between (pos (suc m) *ℤ a) b ≡ t → (t && conforms (scale (pos (suc m)) u) v) ≡ false →
          is_between a b ≡ true → is_between (pos m *ℤ a) b ≡ true → scale (pos m) u ⊑ v →
          (conforms (scale (pos (suc m)) u) v ≡ false → suc (clipped most (sub v (scale (pos m) u))) ≤ clipped most v) →
          suc (clipped most (sub (b ∷ v) (scale (pos m) (a ∷ u)))) ≤ clipped most (b ∷ v)
      by true e fails part here rest further =
          omega (arith, entry_no_more most (pos m *ℤ a) b here, further fails)
      by false e fails part here rest further =
          omega (
            arith,
            entry_less most m a b some narrow.0 part here e,
            clipped_no_more most (scale (pos m) u) v rest,
          )

-- ---- lists of vectors

-- m times each vector
abbrev pub times : ℕ → Bricks → Bricks
times m h = map (scale (pos m)) h

-- the same count for all vectors
abbrev pub all_clipped : ℕ → List Vector → ℕ
all_clipped most [] = 0
all_clipped most (d ∷ ds) = clipped most d + all_clipped most ds

-- each entry of each vector counts at most the bound
pub all_clipped_most : (most t : ℕ) (ds : List Vector) → AreSized t ds → all_clipped most ds ≤ (length ds * t) * most
all_clipped_most most t [] sized = omega arith
all_clipped_most most t (d ∷ ds) sized =
    let next : (suc (length ds) * t) * most ≡ t * most + (length ds * t) * most = grind arith in
    omega (
      arith,
      clipped_most most d,
      ap (λ k. k * most) sized.0,
      all_clipped_most most t ds sized.1,
      next,
    )

-- what is left over parts counts no more
pub all_no_more : (most : ℕ) (us ds : List Vector) → all_zip conforms us ds ≡ true →
    all_clipped most (back ds us) ≤ all_clipped most ds
all_no_more most [] [] passes = omega arith
all_no_more most [] (d ∷ ds) passes = absurd (cc)
all_no_more most (u ∷ us) [] passes = absurd (cc)
all_no_more most (u ∷ us) (d ∷ ds) passes =
    let p = and_true (conforms u d) (all_zip conforms us ds) passes in
    omega (arith, clipped_no_more most u d p.0, all_no_more most us ds p.1)

module _ (most m : ℕ) (some : 1 ≤ m) where
  -- and less over the greatest multiple of narrow parts
  pub all_less : (h ds : List Vector) → AllByRecursion (IsNarrow most) h → all_zip conforms h ds ≡ true →
      all_zip conforms (times m h) ds ≡ true → all_zip conforms (times (suc m) h) ds ≡ false →
      suc (all_clipped most (back ds (times m h))) ≤ all_clipped most ds
  all_less [] [] narrow below fits over = absurd (cc)
  all_less [] (d ∷ ds) narrow below fits over = absurd (cc)
  all_less (k ∷ h) [] narrow below fits over = absurd (cc)
  all_less (k ∷ h) (d ∷ ds) narrow below fits over =
      let p = and_true (conforms k d) (all_zip conforms h ds) below in
      let q = and_true (conforms (scale (pos m) k) d) (all_zip conforms (times m h) ds) fits in
      by (conforms (scale (pos (suc m)) k) d) refl over p.0 q.0 q.1 (λ j. all_less h ds narrow.1 p.1 q.1 j)
    where
      by : (t : Bool) → conforms (scale (pos (suc m)) k) d ≡ t → (t && all_zip conforms (times (suc m) h) ds) ≡ false →
          k ⊑ d → scale (pos m) k ⊑ d → all_zip conforms (times m h) ds ≡ true →
          (all_zip conforms (times (suc m) h) ds ≡ false →
          suc (all_clipped most (back ds (times m h))) ≤ all_clipped most ds) →
          suc (all_clipped most (back (d ∷ ds) (times m (k ∷ h)))) ≤ all_clipped most (d ∷ ds)
      by true e j part here rest further =
          omega (arith, clipped_no_more most (scale (pos m) k) d here, further j)
      by false e j part here rest further =
          omega (
            arith,
            clipped_less most m some k d narrow.0 part here e,
            all_no_more most (times m h) ds rest,
          )

-- the test and the fact
pub all_below : (us ds : List Vector) → all_zip conforms us ds ≡ true → AllZip ◌⊑◌ us ds
all_below [] [] passes = tt
all_below [] (d ∷ ds) passes = absurd (cc)
all_below (u ∷ us) [] passes = absurd (cc)
all_below (u ∷ us) (d ∷ ds) passes =
    let p = and_true (conforms u d) (all_zip conforms us ds) passes in (p.0, all_below us ds p.1)

-- the fact and the test
pub all_below_test : (us ds : List Vector) → AllZip ◌⊑◌ us ds → all_zip conforms us ds ≡ true
all_below_test [] [] below = refl
all_below_test [] (d ∷ ds) below = absurd below
all_below_test (u ∷ us) [] below = absurd below
all_below_test (u ∷ us) (d ∷ ds) below =
    ap (λ t. t && all_zip conforms us ds) below.0 ∙ all_below_test us ds below.1
