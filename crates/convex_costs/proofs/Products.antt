-- Products of whole numbers, and how large they are.
use Rattle.std.proofs.Common.{◌≡◌, ℕ, suc, ◌+◌, ◌*◌, ◌≤◌, max, ℤ, pos, negsuc, ◌+ℤ◌, ◌*ℤ◌, neg_ℤ, ◌≤ℤ◌, unsigned_abs}
use Rattle.std.proofs.Common.{◌⊎◌, inl, inr, ap, arith, ◌∙◌}
use Rattle.std.proofs.lemmas.Int.{ints, unsigned_abs-mul}
use Rattle.std.proofs.Math.IntN.{*ℤ_comm}
use Rattle.std.proofs.Math.Nat.{mul-le-mul, mul-le-mul_left}
use Rattle.lattice_laws.proofs.Products.{times_sum}
use Rattle.convex_costs.specs.Bounds.{terms}

-- 1 times a number
times_one : (a : ℤ) → a *ℤ pos 1 ≡ a
times_one (pos n) = omega (arith, ints)
times_one (negsuc n) = omega (arith, ints)

-- the next number, times a
pub times_next : (a x : ℤ) → a *ℤ (x +ℤ pos 1) ≡ a *ℤ x +ℤ a
times_next a x = times_sum a x (pos 1) ∙ ap (λ y. a *ℤ x +ℤ y) (times_one a)

-- the square of the next number, times a
pub times_next_square : (a x : ℤ) → a *ℤ ((x +ℤ pos 1) *ℤ (x +ℤ pos 1)) ≡ a *ℤ (x *ℤ x) +ℤ a *ℤ x +ℤ a *ℤ x +ℤ a
times_next_square a x =
    let outer = times_next (x +ℤ pos 1) x in
    let turned = *ℤ_comm (x +ℤ pos 1) x in
    let inner = times_next x x in
    let square : (x +ℤ pos 1) *ℤ (x +ℤ pos 1) ≡ (x *ℤ x +ℤ x) +ℤ (x +ℤ pos 1) = omega (
      arith,
      ints,
      outer,
      turned,
      inner,
    ) in
    let parts = ap (λ y. a *ℤ y) square ∙ times_sum a (x *ℤ x +ℤ x) (x +ℤ pos 1) in
    omega (arith, ints, parts, times_sum a (x *ℤ x) x, times_next a x)

-- a number between the bounds is no larger than the greater of them
pub abs_between : (lo hi v : ℤ) → lo ≤ℤ v → v ≤ℤ hi → unsigned_abs v ≤ max (unsigned_abs lo) (unsigned_abs hi)
abs_between lo hi v low high = omega (arith, ints)

-- the terms grow with the number
pub terms_grow : (a b c : ℤ) (k m : ℕ) → k ≤ m → terms a b c k ≤ terms a b c m
terms_grow a b c k m below =
    let squares : k * k ≤ m * m = mul-le-mul below below in
    omega (arith, mul-le-mul_left (unsigned_abs a) squares, mul-le-mul_left (unsigned_abs b) below)

-- a quadratic value is at most the sum of its terms' absolute values
pub quadratic_abs : (a b c v : ℤ) →
    unsigned_abs (a *ℤ (v *ℤ v) +ℤ b *ℤ v +ℤ c) ≤ terms a b c (unsigned_abs v)
quadratic_abs a b c v =
    let square = unsigned_abs-mul a (v *ℤ v) ∙ ap (λ n. unsigned_abs a * n) (unsigned_abs-mul v v) in
    sums (a *ℤ (v *ℤ v)) (b *ℤ v) c _ _ square (unsigned_abs-mul b v)
  where
    sums : (x y z : ℤ) (k m : ℕ) → unsigned_abs x ≡ k → unsigned_abs y ≡ m →
        unsigned_abs (x +ℤ y +ℤ z) ≤ k + m + unsigned_abs z
    sums x y z k m e f = omega (arith, ints)

-- multiples by two natural numbers lie on the same side of 0
pub multiples_agree : (s : ℤ) (n m : ℕ) →
    ((pos 0 ≤ℤ (s *ℤ pos n)) × (pos 0 ≤ℤ (s *ℤ pos m))) ⊎ (((s *ℤ pos n) ≤ℤ pos 0) × ((s *ℤ pos m) ≤ℤ pos 0))
multiples_agree (pos k) n m = inl (omega (arith, ints), omega (arith, ints))
multiples_agree (negsuc k) n m = inr (falls (suc k * n), falls (suc k * m))
  where
    falls : (x : ℕ) → neg_ℤ (pos x) ≤ℤ pos 0
    falls x = omega (arith, ints)
