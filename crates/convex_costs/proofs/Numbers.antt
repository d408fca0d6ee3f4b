-- Numbers of 64 and of 128 bits, as the code reads them, with their quotients and remainders.
use Rattle.std.proofs.Common.{◌≡◌, ℕ, suc, ◌/◌, ◌%◌, ◌^◌, ◌<◌, ◌≤◌, ℤ, pos, negsuc, neg_ℤ, unsigned_abs, int_div}
use Rattle.std.proofs.Common.{int_rem, nat_eq, FitsSigned, w64, arith, ap, ◌∙◌}
use Rattle.std.specs.Int.{w128, cast_unsigned, cast_signed}
use Rattle.std.specs.Ordering.{int_eq}
use Rattle.std.proofs.lemmas.Int.{ints, to_z-of_z, fits_signed_from_abs}
use Rattle.std.proofs.lemmas.Bool.Decides.{nat_tests}
use Rattle.std.proofs.Math.Nat.{div-le_self, mod-le}

-- a bounded number fits 64 bits
pub fits_64 : (a : ℤ) → unsigned_abs a ≤ 2 ^ 62 → FitsSigned w64 a
fits_64 a small = fits_signed_from_abs w64 a (omega (arith, small))

-- what is small fits 128 bits
pub fits_128 : (z : ℤ) → unsigned_abs z < 2 ^ 127 → FitsSigned w128 z
fits_128 z small = fits_signed_from_abs w128 z (omega (arith, small))

-- a number of 64 bits, taken from its bits
abbrev pub narrow : ℤ → ℤ
narrow z = cast_signed w64 (cast_unsigned w64 z)

-- a number of 128 bits, taken from its bits
abbrev pub wide : ℤ → ℤ
wide z = cast_signed w128 (cast_unsigned w128 z)

-- a small number is what its bits say
pub wide_is : (z : ℤ) → unsigned_abs z < 2 ^ 127 → wide z ≡ z
wide_is z small = to_z-of_z w128 z (fits_128 z small)

-- and so is a number of 64 bits that is made wide
pub narrow_is : (a : ℤ) → FitsSigned w64 a → wide (narrow a) ≡ a
narrow_is a fits = ap wide (to_z-of_z w64 a fits) ∙ wide_is a (omega (arith, ints, fits))

-- ---- quotients and remainders

-- the size of a number does not tell its sign
abs_neg : (n : ℕ) → unsigned_abs (neg_ℤ (pos n)) ≡ n
abs_neg n = omega (arith, ints)

-- a remainder is no larger than what is divided
rem_small : (x y : ℤ) → unsigned_abs (int_rem x y) ≤ unsigned_abs x
rem_small (pos a) y = mod-le a (unsigned_abs y)
rem_small (negsuc a) y = omega (arith, abs_neg (suc a % unsigned_abs y), mod-le (suc a) (unsigned_abs y))

-- and so is a quotient
quotient_abs : (x y : ℤ) → unsigned_abs (int_div x y) ≤ unsigned_abs x
quotient_abs (pos a) (pos b) = div-le_self a b
quotient_abs (pos a) (negsuc b) = omega (arith, abs_neg (a / suc b), div-le_self a (suc b))
quotient_abs (negsuc a) (pos b) = omega (arith, abs_neg (suc a / b), div-le_self (suc a) b)
quotient_abs (negsuc a) (negsuc b) = div-le_self (suc a) (suc b)

-- the test of the bits is the test of the number
is_zero_by_bits : (z : ℤ) → FitsSigned w128 z → nat_eq (cast_unsigned w128 z) 0 ≡ int_eq z (pos 0)
is_zero_by_bits (pos n) fits = grind (arith, nat_tests, ints)
is_zero_by_bits (negsuc n) fits = grind (arith, nat_tests, ints)

module _ (x y a : ℤ) (is_a : x ≡ a) (small_x : unsigned_abs x < 2 ^ 64) (small_y : unsigned_abs y < 2 ^ 64) where
  -- x and y are what their bits say
  same_x : wide x ≡ x
  same_x = wide_is x (omega (arith, small_x))

  same_y : wide y ≡ y
  same_y = wide_is y (omega (arith, small_y))

  -- the remainder of the bits is 0 where the remainder is
  pub rem_is_zero : (b : ℤ) → y ≡ b →
      nat_eq (cast_unsigned w128 (int_rem (wide x) (wide y))) 0 ≡ int_eq (int_rem a b) (pos 0)
  rem_is_zero b is_b =
      (λ i. nat_eq (cast_unsigned w128 (int_rem (same_x i) (same_y i))) 0)
      ∙ is_zero_by_bits (int_rem x y) (fits_128 (int_rem x y) (omega (arith, rem_small x y, small_x)))
      ∙ (λ i. int_eq (int_rem (is_a i) (is_b i)) (pos 0))

  -- the quotient of the bits is no larger than what is divided
  pub quotient_small : unsigned_abs (wide (int_div (wide x) (wide y))) ≤ unsigned_abs a
  quotient_small =
      let by_bits : wide (int_div (wide x) (wide y)) ≡ wide (int_div x y) = λ i. wide (int_div (same_x i) (same_y i)) in
      let same = by_bits ∙ wide_is (int_div x y) (omega (arith, quotient_abs x y, small_x)) in
      omega (arith, ap unsigned_abs same, quotient_abs x y, ap unsigned_abs is_a)
