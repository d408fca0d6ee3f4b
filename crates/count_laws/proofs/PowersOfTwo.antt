-- Powers of 2: a number is less than that of its number of binary digits, and the greatest one that is no larger.
use Rattle.std.proofs.Common.{◌≡◌, ℕ, zero, suc, ◌+◌, ◌^◌, ◌/◌, ◌<◌, ◌≤◌, ap, arith, ◌∙◌, inl, inr}
use Rattle.std.proofs.lemmas.Bool.{cases_lt}
use Rattle.std.proofs.lemmas.Int.Digits.{length-digits_of_step}
use Rattle.std.proofs.Math.Nat.{pow-suc}
use Rattle.run_theory.specs.Digits.{binary_digits}

-- a power is twice the one before
pub power-suc : (k : ℕ) → 2 ^ (suc k) ≡ 2 ^ k + 2 ^ k
power-suc k = omega (arith, pow-suc 2 k)

-- each power is at least 1
pub power_some : (k : ℕ) → 1 ≤ 2 ^ k
power_some zero = omega arith
power_some (suc k) = omega (arith, power-suc k, power_some k)

-- by the digits
digits_above : (most n : ℕ) → n ≤ most → n < 2 ^ binary_digits n
digits_above most zero low = omega (arith, power_some (binary_digits 0))
digits_above zero (suc n) low = absurd (omega arith)
digits_above (suc most) (suc n) low =
    let h = suc n / 2 in
    let rest = digits_above most h (omega arith) in
    let size : binary_digits (suc n) ≡ suc (binary_digits h) =
    length-digits_of_step 2 (suc n) (omega arith) (omega arith) ∙ omega arith in
    omega (arith, rest, ap (λ k. 2 ^ k) size, power-suc (binary_digits h))

-- a number is less than the power with its digits as exponent
pub less_than_power : (n : ℕ) → n < 2 ^ binary_digits n
less_than_power n = digits_above n n (omega arith)

-- 2 ^ k is at most m, and twice that is more
pub record PowerBelow (m : ℕ) : Type 0 where
  pub k : ℕ
  pub low : 2 ^ k ≤ m
  pub high : m < 2 ^ k + 2 ^ k

pub power_below : (m : ℕ) → 1 ≤ m → PowerBelow m
power_below zero some = absurd (omega arith)
power_below (suc zero) some = record { k = 0; low = omega arith; high = omega arith }
power_below (suc (suc m)) some =
    let r = power_below (suc m) (omega arith) in
    elim (cases_lt (suc (suc m)) (2 ^ r.k + 2 ^ r.k)) [
      | inl less ↦ record { k = r.k; low = omega (arith, r.low); high = less }
      | inr more ↦ record {
        k = suc r.k;
        low = omega (arith, more, power-suc r.k);
        high = omega (arith, r.high, power-suc r.k, power_some r.k);
      }
    ]
