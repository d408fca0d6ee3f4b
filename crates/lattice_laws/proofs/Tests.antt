-- Each test and the fact that it decides.
pub use Rattle.std.proofs.lemmas.Bool.{and_parts as and_true}
use Rattle.std.proofs.Common.{◌≡◌, ℤ, Bool, true, false, ◌&&◌, ◌∷◌, refl, ap, ◌∙◌, ◌⊎◌, inl, inr, sym, arith, ℕ, ◌<◌}
use Rattle.std.proofs.Common.{◌≤◌, nat_le, ◌≤ℤ◌, int_le, nat_eq, nat_lt, [], int_lt, ◌<ℤ◌, unsigned_abs, ◌^◌}
use Rattle.std.proofs.lemmas.Int.{ints}
use Rattle.std.specs.Ordering.{int_eq}
use Rattle.lattice_theory.specs.Vectors.{Vector, same, is_bounded}
use Rattle.std.proofs.lemmas.Bool.Decides.{nat_tests}

pub true_or_false : (b : Bool) → (b ≡ true) ⊎ (b ≡ false)
true_or_false true = inl refl
true_or_false false = inr refl

pub not_both : (b : Bool) → b ≡ true → b ≡ false → ⊥
not_both b passes fails = absurd (cc)

pub int_eq_true : (a b : ℤ) → int_eq a b ≡ true → a ≡ b
int_eq_true a b passes = grind (arith, ints)

pub int_eq_refl : (a : ℤ) → int_eq a a ≡ true
int_eq_refl a = grind (arith, ints)

pub same_true : (u v : Vector) → same u v ≡ true → u ≡ v
same_true [] [] passes = refl
same_true [] (b ∷ v) passes = absurd (cc)
same_true (a ∷ u) [] passes = absurd (cc)
same_true (a ∷ u) (b ∷ v) passes =
    let p = and_true (int_eq a b) (same u v) passes in
    let e : a ≡ b = int_eq_true a b p.0 in
    let r : u ≡ v = same_true u v p.1 in
    cc

pub same_refl : (u : Vector) → same u u ≡ true
same_refl [] = refl
same_refl (a ∷ u) = ap (λ t. t && same u u) (int_eq_refl a) ∙ same_refl u

-- whether two vectors are equal is decided
pub same_or_not : (u v : Vector) → (u ≡ v) ⊎ (u ≡ v → ⊥)
same_or_not u v = elim (true_or_false (same u v)) [
  | inl h ↦ inl (same_true u v h)
  | inr h ↦ inr (λ e. not_both (same u v) (ap (λ w. same u w) (sym e) ∙ same_refl u) h)
]

-- ---- comparisons of numbers

pub le_true : (m n : ℕ) → nat_le m n ≡ true → m ≤ n
le_true m n passes = grind (arith, nat_tests)

pub lt_true : (m n : ℕ) → nat_lt m n ≡ true → m < n
lt_true m n passes = grind (arith, nat_tests)

pub nat_le_of : (m n : ℕ) → m ≤ n → nat_le m n ≡ true
nat_le_of m n low = grind (arith, nat_tests)

pub nat_lt_of : (m n : ℕ) → m < n → nat_lt m n ≡ true
nat_lt_of m n less = grind (arith, nat_tests)

pub nat_eq_true : (m n : ℕ) → nat_eq m n ≡ true → m ≡ n
nat_eq_true m n passes = grind (arith, nat_tests)

pub nat_eq_of : (m n : ℕ) → m ≡ n → nat_eq m n ≡ true
nat_eq_of m n same = grind (arith, nat_tests)

pub int_le_true : (a b : ℤ) → int_le a b ≡ true → a ≤ℤ b
int_le_true a b passes = grind (arith, ints)

pub int_le_of : (a b : ℤ) → a ≤ℤ b → int_le a b ≡ true
int_le_of a b low = grind (arith, ints)

pub int_lt_true : (a b : ℤ) → int_lt a b ≡ true → a <ℤ b
int_lt_true a b passes = grind (arith, ints)

pub int_lt_false : (a b : ℤ) → int_lt a b ≡ false → b ≤ℤ a
int_lt_false a b fails = grind (arith, ints)

-- of two numbers the first is at most the second, or the second is less
pub le_or_less : (a b : ℤ) → (a ≤ℤ b) ⊎ (b <ℤ a)
le_or_less a b = by (int_lt b a) refl
  where
    by : (t : Bool) → int_lt b a ≡ t → (a ≤ℤ b) ⊎ (b <ℤ a)
    by true e = inr (int_lt_true b a e)
    by false e = inl (int_lt_false b a e)

-- what the test of the largest magnitude says
pub is_bounded_true : (a : ℤ) → is_bounded a ≡ true → unsigned_abs a ≤ 2 ^ 62
is_bounded_true a test = grind (arith, nat_tests)

-- two pairs of tests, taken the other way
pub and-interchange : (a b c d : Bool) → ((a && b) && (c && d)) ≡ ((a && c) && (b && d))
and-interchange true true c d = refl
and-interchange true false true d = refl
and-interchange true false false d = refl
and-interchange false b c d = refl
