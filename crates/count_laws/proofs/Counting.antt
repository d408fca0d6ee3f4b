-- Where each of q steps takes at least a k-th part of what is left, and less than 2 ^ b is there, q is at most k times
-- b, as after k steps at most half is left.
use Rattle.std.proofs.Common.{◌≡◌, ℕ, zero, suc, ◌+◌, ◌-◌, ◌*◌, ◌^◌, ◌<◌, ◌≤◌, ap, arith, inl, inr}
use Rattle.std.proofs.lemmas.Bool.{cases_lt}
use Rattle.std.proofs.Math.Nat.{mul-le-mul_left}
use Rattle.count_laws.proofs.PowersOfTwo.{power-suc}

-- what is left after each of q steps: less each time, by a k-th part at least
pub record Falls (k q : ℕ) (left : ℕ → ℕ) : Type 0 where
  pub less : (j : ℕ) → j < q → left (suc j) < left j
  pub part : (j : ℕ) → j < q → left j + k * left (suc j) ≤ k * left j

module _ (k q : ℕ) (left : ℕ → ℕ) (falls : Falls k q left) where
  -- no more is left later on
  later : (i j : ℕ) → i + j ≤ q → left (i + j) ≤ left i
  later i zero low = let same : i + 0 ≡ i = omega arith in omega (arith, ap left same)
  later i (suc j) low =
      let next : i + suc j ≡ suc (i + j) = omega arith in
      omega (arith, ap left next, later i j (omega (arith, low)), falls.less (i + j) (omega (arith, low)))

  -- what the first j steps take, where each takes at least d by k times twice over
  losses : (d j : ℕ) → ((i : ℕ) → i < j → d + 2 * (k * left (suc i)) ≤ 2 * (k * left i)) →
      j * d + 2 * (k * left j) ≤ 2 * (k * left 0)
  losses d zero each = omega arith
  losses d (suc j) each = omega (arith, losses d j (λ i low. each i (omega (arith, low))), each j (omega arith))

  -- where a step takes something, k is not 0
  part_some : 0 < q → 0 < k
  part_some some =
      by k (left 0) (left 1) (falls.part 0 (omega (arith, some))) (omega (arith, falls.less 0 (omega (arith, some))))
    where
      by : (n a b : ℕ) → a + n * b ≤ n * a → 0 < a → 0 < n
      by zero a b low more = absurd (omega (arith, low, more))
      by (suc n) a b low more = omega arith

  -- after k steps at most half is left
  halved : k < q → 2 * left k ≤ left 0
  halved more = elim (cases_lt (left 0) (2 * left k)) [
    | inr low ↦ omega (arith, low)
    | inl high ↦
        let each : (i : ℕ) → i < k → (left 0 + 1) + 2 * (k * left (suc i)) ≤ 2 * (k * left i) = λ i low.
        let end : i + (k - i) ≡ k = omega (arith, low) in
        omega (
          arith,
          high,
          falls.part i (omega (arith, low, more)),
          later i (k - i) (omega (arith, low, more)),
          ap left end,
        ) in
        let all = losses (left 0 + 1) k each in
        let twice = mul-le-mul_left k high in
        absurd (omega (arith, all, twice, part_some (omega (arith, more))))
  ]

-- by the power of 2
pub count : (b k q : ℕ) (left : ℕ → ℕ) → Falls k q left → left 0 < 2 ^ b → q ≤ k * b
count zero k zero left falls low = omega arith
count zero k (suc q) left falls low = absurd (omega (arith, low, falls.less 0 (omega arith)))
count (suc b) k q left falls low = elim (cases_lt k q) [
  | inr few ↦ omega (arith, few)
  | inl more ↦
      let rest = count b k (q - k) (λ j. left (k + j)) (after more) (start more) in omega (arith, rest, more)
]
  where
    after : k < q → Falls k (q - k) (λ j. left (k + j))
    after more = record {
      less = λ j low.
          let next : k + suc j ≡ suc (k + j) = omega arith in
          omega (arith, ap left next, falls.less (k + j) (omega (arith, low, more)));
      part = λ j low.
          let next : k + suc j ≡ suc (k + j) = omega arith in
          omega (arith, ap (λ n. k * left n) next, falls.part (k + j) (omega (arith, low, more)));
    }

    start : k < q → left (k + 0) < 2 ^ b
    start more =
        let same : k + 0 ≡ k = omega arith in
        omega (arith, ap left same, halved k q left falls more, low, power-suc b)
