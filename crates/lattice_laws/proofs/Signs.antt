-- Whole numbers under the conformal order: what is between 0 and a number, and when two numbers clash.
use Rattle.std.proofs.Common.{◌≡◌, ℕ, zero, suc, ◌+◌, ◌<◌, ◌≤◌, ℤ, pos, negsuc, ◌+ℤ◌, ◌-ℤ◌, ◌*ℤ◌, neg_ℤ, int_le}
use Rattle.std.proofs.Common.{unsigned_abs, Bool, true, false, min, refl, ap, arith, ◌⊎◌, inl, inr}
use Rattle.std.proofs.lemmas.Int.{ints}
use Rattle.std.proofs.Math.IntN.{*ℤ_comm}
use Rattle.std.proofs.lemmas.Bool.Decides.{nat_tests}
use borrow.Author.Differences.{up, down}
use Rattle.lattice_theory.specs.Vectors.{is_between}
use Rattle.lattice_laws.proofs.Tests.{not_both}

-- ---- the order

pub between_refl : (a : ℤ) → is_between a a ≡ true
between_refl (pos a) = grind (arith, nat_tests)
between_refl (negsuc a) = grind (arith, nat_tests)

pub between_trans : (a b c : ℤ) → is_between a b ≡ true → is_between b c ≡ true → is_between a c ≡ true
between_trans a b c part between = grind (arith, nat_tests, ints)

pub between_antisym : (a b : ℤ) → is_between a b ≡ true → is_between b a ≡ true → a ≡ b
between_antisym a b part between = grind (arith, nat_tests, ints)

pub between_opposite : (a b : ℤ) → is_between a b ≡ true → is_between (neg_ℤ a) (neg_ℤ b) ≡ true
between_opposite a b part = grind (arith, nat_tests, ints)

-- signs turned on the one side or on the other
pub between_turned : (a b : ℤ) → is_between a (neg_ℤ b) ≡ is_between (neg_ℤ a) b
between_turned (pos zero) (pos zero) = refl
between_turned (pos zero) (pos (suc n)) = grind (arith, nat_tests, ints)
between_turned (pos zero) (negsuc n) = grind (arith, nat_tests, ints)
between_turned (pos (suc k)) (pos zero) = grind (arith, nat_tests, ints)
between_turned (pos (suc k)) (pos (suc n)) = grind (arith, nat_tests, ints)
between_turned (pos (suc k)) (negsuc n) = grind (arith, nat_tests, ints)
between_turned (negsuc k) (pos zero) = grind (arith, nat_tests, ints)
between_turned (negsuc k) (pos (suc n)) = grind (arith, nat_tests, ints)
between_turned (negsuc k) (negsuc n) = grind (arith, nat_tests, ints)

pub between_rest : (a b : ℤ) → is_between b a ≡ true → is_between (a -ℤ b) a ≡ true
between_rest a b part = grind (arith, nat_tests, ints)

pub abs_split : (a b : ℤ) → is_between b a ≡ true → unsigned_abs a ≡ unsigned_abs b + unsigned_abs (a -ℤ b)
abs_split a b part = grind (arith, nat_tests, ints)

pub abs_opposite : (a : ℤ) → unsigned_abs (neg_ℤ a) ≡ unsigned_abs a
abs_opposite (pos zero) = refl
abs_opposite (pos (suc n)) = refl
abs_opposite (negsuc n) = refl

pub abs_sum : (x y : ℤ) → unsigned_abs (x +ℤ y) ≤ unsigned_abs x + unsigned_abs y
abs_sum x y = omega (arith, ints)

-- ---- numbers that agree: neither has the other sign

abbrev pub agrees : ℤ → ℤ → Bool
agrees x y = int_le (pos 0) (x *ℤ y)

pub agrees_comm : (x y : ℤ) → agrees x y ≡ agrees y x
agrees_comm x y = ap (int_le (pos 0)) (*ℤ_comm x y)

pub agrees_opposites : (x y : ℤ) → agrees (neg_ℤ x) (neg_ℤ y) ≡ agrees x y
agrees_opposites (pos zero) (pos zero) = refl
agrees_opposites (pos zero) (pos (suc n)) = grind (arith, nat_tests, ints)
agrees_opposites (pos zero) (negsuc n) = grind (arith, nat_tests, ints)
agrees_opposites (pos (suc k)) (pos zero) = grind (arith, nat_tests, ints)
agrees_opposites (pos (suc k)) (pos (suc n)) = grind (arith, nat_tests, ints)
agrees_opposites (pos (suc k)) (negsuc n) = grind (arith, nat_tests, ints)
agrees_opposites (negsuc k) (pos zero) = grind (arith, nat_tests, ints)
agrees_opposites (negsuc k) (pos (suc n)) = grind (arith, nat_tests, ints)
agrees_opposites (negsuc k) (negsuc n) = grind (arith, nat_tests, ints)

pub agrees_same : (x : ℤ) → agrees x x ≡ true
agrees_same (pos n) = grind (arith, nat_tests, ints)
agrees_same (negsuc n) = grind (arith, nat_tests, ints)

-- a number agrees with its opposite only where it is 0
pub agrees_own_opposite : (x : ℤ) → agrees x (neg_ℤ x) ≡ true → unsigned_abs x ≡ 0
agrees_own_opposite (pos zero) agreeing = refl
agrees_own_opposite (pos (suc n)) agreeing = grind (arith, nat_tests, ints)
agrees_own_opposite (negsuc n) agreeing = grind (arith, nat_tests, ints)

-- two parts of one number agree
pub agrees_parts : (a b y : ℤ) → is_between a y ≡ true → is_between b y ≡ true → agrees a b ≡ true
agrees_parts a b y part between = grind (arith, nat_tests, ints)

pub abs_agree : (x y : ℤ) → agrees x y ≡ true → unsigned_abs (x +ℤ y) ≡ unsigned_abs x + unsigned_abs y
abs_agree x y agreeing = grind (arith, nat_tests, ints)

pub between_sum : (x y : ℤ) → agrees x y ≡ true → is_between x (x +ℤ y) ≡ true
between_sum x y agreeing = grind (arith, nat_tests, ints)

-- ---- how far two numbers are of opposite sign

abbrev pub clash : ℤ → ℤ → ℕ
clash a b = min (up a) (down b) + min (down a) (up b)

-- a is between 0 and b, by the positive and the negative parts
pub record IsPart (a b : ℤ) : Type 0 where
  pub ups : up a ≤ up b
  pub downs : down a ≤ down b

pub part_of : (a b : ℤ) → is_between a b ≡ true → IsPart a b
part_of a b part = record { ups = part_up a b part; downs = part_down a b part }
  where
    part_up : (a b : ℤ) → is_between a b ≡ true → up a ≤ up b
    part_up a b part = grind (arith, nat_tests, ints)

    part_down : (a b : ℤ) → is_between a b ≡ true → down a ≤ down b
    part_down a b part = grind (arith, nat_tests, ints)

pub one_zero : (a : ℤ) → min (up a) (down a) ≡ 0
one_zero (pos n) = omega arith
one_zero (negsuc n) = omega arith

pub abs_parts : (a : ℤ) → unsigned_abs a ≡ up a + down a
abs_parts (pos n) = omega arith
abs_parts (negsuc n) = omega arith

pub clash_none : (a b : ℤ) → clash a b ≡ 0 → agrees a b ≡ true
clash_none (pos a) (pos b) same = grind (arith, nat_tests, ints)
clash_none (pos zero) (negsuc b) same = grind (arith, nat_tests, ints)
clash_none (pos (suc a)) (negsuc b) same = absurd (omega (arith, same))
clash_none (negsuc a) (pos zero) same = grind (arith, nat_tests, ints)
clash_none (negsuc a) (pos (suc b)) same = absurd (omega (arith, same))
clash_none (negsuc a) (negsuc b) same = grind (arith, nat_tests, ints)

pub clash_some : (a b : ℤ) → 0 < clash a b → agrees a b ≡ false
clash_some (pos a) (pos b) some = absurd (omega (arith, some))
clash_some (pos zero) (negsuc b) some = absurd (omega (arith, some))
clash_some (pos (suc a)) (negsuc b) some = grind (arith, nat_tests, ints)
clash_some (negsuc a) (pos zero) some = absurd (omega (arith, some))
clash_some (negsuc a) (pos (suc b)) some = grind (arith, nat_tests, ints)
clash_some (negsuc a) (negsuc b) some = absurd (omega (arith, some))

-- ---- parts of sums

pub agrees_zero : (x : ℤ) → agrees x (pos 0) ≡ true
agrees_zero x = grind (arith, nat_tests, ints)

pub abs_clash : (x y : ℤ) → agrees x y ≡ false → unsigned_abs (x +ℤ y) < unsigned_abs x + unsigned_abs y
abs_clash x y clash = grind (arith, nat_tests, ints)

pub between_of : (a b : ℤ) → IsPart a b → is_between a b ≡ true
between_of (pos a) (pos b) p = grind (arith, nat_tests, ints, p.ups)
between_of (pos zero) (negsuc b) p = grind (arith, nat_tests, ints)
between_of (pos (suc a)) (negsuc b) p = absurd (omega (arith, p.ups))
between_of (negsuc a) (pos b) p = absurd (omega (arith, p.downs))
between_of (negsuc a) (negsuc b) p = grind (arith, nat_tests, ints, p.downs)

pub no_clash : (a b : ℤ) → agrees a b ≡ true → clash a b ≡ 0
no_clash a b agreeing = by (clash a b) refl
  where
    by : (n : ℕ) → clash a b ≡ n → n ≡ 0
    by zero e = refl
    by (suc n) e = absurd (not_both (agrees a b) agreeing (clash_some a b (omega (arith, e))))

-- parts of two numbers that do not clash add up to a part of their sum
sum_part : (a b c d : ℤ) → IsPart a c → IsPart b d → clash c d ≡ 0 → IsPart (a +ℤ b) (c +ℤ d)
sum_part a b c d p q none = record {
  ups = omega (arith, ints, p.ups, p.downs, q.ups, q.downs, none, one_zero c, one_zero d, one_zero (a +ℤ b));
  downs = omega (arith, ints, p.ups, p.downs, q.ups, q.downs, none, one_zero c, one_zero d, one_zero (a +ℤ b));
}

pub between_parts : (a b c d : ℤ) → is_between a c ≡ true → is_between b d ≡ true → agrees c d ≡ true →
    is_between (a +ℤ b) (c +ℤ d) ≡ true
between_parts a b c d part between agreeing =
    between_of (a +ℤ b) (c +ℤ d) (sum_part a b c d (part_of a c part) (part_of b d between) (no_clash c d agreeing))

-- 0 is below each number
pub between_zero : (a : ℤ) → is_between (pos 0) a ≡ true
between_zero (pos a) = grind (arith, nat_tests, ints)
between_zero (negsuc a) = grind (arith, nat_tests, ints)

-- what is below 0 is 0
pub below_zero : (a : ℤ) → is_between a (pos 0) ≡ true → a ≡ pos 0
below_zero a below = grind (arith, nat_tests, ints)

-- 0 and 1 are all that is below 1
pub zero_or_one : (a : ℤ) → is_between a (pos 1) ≡ true → (a ≡ pos 0) ⊎ (a ≡ pos 1)
zero_or_one (pos zero) below = inl refl
zero_or_one (pos (suc zero)) below = inr refl
zero_or_one (pos (suc (suc n))) below = absurd (no_more n below)
  where
    no_more : (n : ℕ) → is_between (pos (suc (suc n))) (pos 1) ≡ true → ⊥
    no_more n below = grind (arith, nat_tests, ints)
zero_or_one (negsuc n) below = absurd (not_negative n below)
  where
    not_negative : (n : ℕ) → is_between (negsuc n) (pos 1) ≡ true → ⊥
    not_negative n below = grind (arith, nat_tests, ints)
