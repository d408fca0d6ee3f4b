-- Leading zeros count the powers of two that are no larger.
use Rattle.std.proofs.Common.{◌≡◌, ℕ, suc, ◌+◌, ◌-◌, ◌^◌, ◌<◌, ◌≤◌, ◌↔◌, max, arith, inl, inr, subst}
use Rattle.std.proofs.Math.Pow.{pow_mono}
use Rattle.std.proofs.lemmas.Bool.{cases_lt}
use Rattle.std.proofs.lemmas.Nat.{leading_top}
use Rattle.std.specs.Int.Count.{count_leading_zeros}
use Rattle.step_lengths.specs.Lengths.{IsLengthCount}

-- 2 ^ j is the greatest power of two up to n, and before is how many digits of 64 stand before the first one
abbrev IsTop : ℕ → ℕ → ℕ → Type 0
IsTop n before j = (before + suc j ≡ 64) × (2 ^ j ≤ n) × (n < 2 ^ suc j)

below_top : (n before j : ℕ) → IsTop n before j → (k : ℕ) → (k < 64 - before) ↔ (2 ^ k ≤ n)
below_top n before j top k = (
  λ low.
      let below : 2 ^ k ≤ 2 ^ j = pow_mono (omega (arith, low, top.0)) in
      omega (arith, below, top.1),
  λ power. elim (cases_lt k (suc j)) [
    | inl low ↦ omega (arith, low, top.0)
    | inr high ↦
        let above : 2 ^ suc j ≤ 2 ^ k = pow_mono high in
        absurd (omega (arith, above, power, top.2))
  ],
)

-- 2 ^ k is at most n for as many k as n has binary digits
below_digits : (n : ℕ) → 0 < n → n < 2 ^ 64 → (k : ℕ) → (k < 64 - count_leading_zeros 64 n) ↔ (2 ^ k ≤ n)
below_digits n above small k =
    let top : (j : ℕ) × (count_leading_zeros 64 n + suc j ≡ 64) × (2 ^ j ≤ n) × (n < 2 ^ suc j) =
    leading_top 64 n above small in
    below_top n (count_leading_zeros 64 n) top.0 (top.1, top.2, top.3) k

-- so the digits of the range, or of 1, count its lengths
pub length_count : (range n : ℕ) → n ≡ max 1 range → range ≤ 2 ^ 63 →
    IsLengthCount range (64 - count_leading_zeros 64 n)
length_count range n is small k =
    let above : 0 < n = omega (arith, is) in
    let fits : n < 2 ^ 64 = omega (arith, is, small) in
    subst (λ m. (k < 64 - count_leading_zeros 64 n) ↔ (2 ^ k ≤ m)) is (below_digits n above fits k)
