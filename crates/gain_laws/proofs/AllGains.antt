-- The gains of all lengths of a program.
use Rattle.std.proofs.Common.{◌≡◌, ℕ, zero, suc, ◌+◌, ◌<◌, ◌≤◌, ◌^◌, ◌↔◌, max, Bool, true, false, cond, leb, List, []}
use Rattle.std.proofs.Common.{◌∷◌, length, Option, Some, slice_get, refl, ap, sym, subst, arith, ⊎_elim, le_of_eq}
use Rattle.std.proofs.Math.Pow.{pow-lt}
use Rattle.std.proofs.lemmas.Bool.Decides.{leb_tells, nat_tests}
use Rattle.std.proofs.lemmas.Option.{same_Some}
use Rattle.lattice_theory.specs.SignedSums.{vectors}
use Rattle.fold_theory.specs.Programs.{Program, Bricks, IsLength, widest}
use Rattle.run_theory.specs.Steps.{IsGain}
use Rattle.run_theory.specs.Folds.{FoldValue}
use Rattle.run_theory.specs.Bests.{AreGains}
use Rattle.gain_laws.proofs.Greatest.{length_gain, length_gain_is}

-- ---- how many lengths there are

-- of the first lengths, those that are at most this range
abbrev pub lengths_within : ℕ → ℕ → ℕ
lengths_within range zero = 0
lengths_within range (suc k) = cond (leb (2 ^ k) range) (suc k) (lengths_within range k)

le_of : (a b : ℕ) → leb a b ≡ true → a ≤ b
le_of a b e = grind (arith, nat_tests)

gt_of : (a b : ℕ) → leb a b ≡ false → b < a
gt_of a b e = grind (arith, nat_tests)

-- a greater length has the greater power
le_power : (j k : ℕ) → j ≤ k → 2 ^ j ≤ 2 ^ k
le_power j k le = ⊎_elim
    (λ t. let e : j ≡ k = let back = t.1 in omega (arith, le, back) in le_of_eq (ap (λ i. 2 ^ i) e))
    (λ t. let lt : 2 ^ j < 2 ^ k = pow-lt t.1 in omega (arith, lt))
    (leb_tells k j)

power_above : (k : ℕ) → k < 2 ^ k
power_above zero = omega arith
power_above (suc k) = let r = power_above k in let p : 2 ^ k < 2 ^ suc k = pow-lt (omega arith) in omega (arith, r, p)

abbrev Counts : ℕ → ℕ → ℕ → Type 0
Counts range count k = (k < count → 2 ^ k ≤ range) × (2 ^ k ≤ range → k < count)

counted : (range n : ℕ) → ((j : ℕ) → n ≤ j → range < 2 ^ j) → (k : ℕ) → Counts range (lengths_within range n) k
counted range zero past k = (
  (λ lt. absurd (omega (arith, lt))),
  λ le. let p = past k (omega arith) in absurd (omega (arith, le, p)),
)
counted range (suc n) past k = by (leb (2 ^ n) range) refl (λ more. counted range n more k) where
  first : 2 ^ n ≤ range → Counts range (suc n) k
  first top = (
    (λ lt. let p = le_power k n (omega (arith, lt)) in omega (arith, p, top)),
    λ le. ⊎_elim
        (λ t. let p = past k t.1 in absurd (omega (arith, le, p)))
        (λ t. t.1)
        (leb_tells (suc n) k),
  )

  by : (b : Bool) → leb (2 ^ n) range ≡ b
      → (((j : ℕ) → n ≤ j → range < 2 ^ j) → Counts range (lengths_within range n) k)
      → Counts range (cond b (suc n) (lengths_within range n)) k
  by true e _ = first (le_of (2 ^ n) range e)
  by false e rest = rest (λ j le. let a = gt_of (2 ^ n) range e in let p = le_power n j le in omega (arith, a, p))

-- the number of lengths of a program
abbrev pub length_count : Program → ℕ
length_count p = lengths_within (max 1 (widest p)) (suc (max 1 (widest p)))

pub length_count_is : (p : Program) (k : ℕ) → (k < length_count p) ↔ IsLength p k
length_count_is p k =
    counted (max 1 (widest p)) (suc (max 1 (widest p))) (λ j le. let a = power_above j in omega (arith, a, le)) k

-- ---- their gains

module _ (f : FoldValue) (x : Bricks) where
  -- the gains of so many lengths from this one
  abbrev gains_from : ℕ → ℕ → List (Option ℕ)
  gains_from zero k = []
  gains_from (suc n) k = length_gain f.program f.phase (vectors f.sums) x k ∷ gains_from n (suc k)

  gains_count : (n k : ℕ) → length (gains_from n k) ≡ n
  gains_count zero k = refl
  gains_count (suc n) k = ap suc (gains_count n (suc k))

  gains_at : (n k i : ℕ) (g : Option ℕ) → slice_get (gains_from n k) i ≡ Some g
      → IsGain f.program f.phase (vectors f.sums) x (k + i) g
  gains_at zero k i g at = absurd (cc)
  gains_at (suc n) k zero g at =
      let here : length_gain f.program f.phase (vectors f.sums) x k ≡ g = same_Some _ g at in
      let e : k ≡ k + 0 = omega arith in
      subst (λ j. IsGain f.program f.phase (vectors f.sums) x j g) e
      (subst (IsGain f.program f.phase (vectors f.sums) x k) here (length_gain_is f.program f.phase (vectors f.sums) x
      k))
  gains_at (suc n) k (suc i) g at =
      let e : suc k + i ≡ k + suc i = omega arith in
      subst (λ j. IsGain f.program f.phase (vectors f.sums) x j g) e (gains_at n (suc k) i g at)

  -- the gains of all lengths
  abbrev pub all_gains : List (Option ℕ)
  all_gains = gains_from (length_count f.program) 0

  pub all_gains_are : AreGains f.program f.phase (vectors f.sums) x all_gains
  all_gains_are = record {
    lengths = λ k. subst (λ n. (k < n) ↔ IsLength f.program k) (sym (gains_count (length_count f.program) 0))
        (length_count_is f.program k);
    each = λ k g at. let e : 0 + k ≡ k = omega arith in
        subst (λ j. IsGain f.program f.phase (vectors f.sums) x j g) e (gains_at (length_count f.program) 0 k g at);
  }

-- each fold has its gains at each point
pub gains_exist : (f : FoldValue) (x : Bricks) → (gains : List (Option ℕ))
    × AreGains f.program f.phase (vectors f.sums) x gains
gains_exist f x = (all_gains f x, all_gains_are f x)
