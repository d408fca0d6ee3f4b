-- A sequence that begins at 0 and whose increments fall: at any place from l up to twice l it is at most twice what it
-- is at l, or at most 0.
use Rattle.std.proofs.Common.{◌≡◌, ℕ, zero, suc, ◌+◌, ◌-◌, ◌≤◌, ℤ, pos, ◌+ℤ◌, refl, ap, arith}
use Rattle.std.proofs.lemmas.Int.{ints, by_lt_z}
use Rattle.std.specs.Prelude.{◌≤ℤ◌, ◌<ℤ◌}

-- the increments of f fall up to m
abbrev pub Concave : (ℕ → ℤ) → ℕ → Type 0
Concave f m = (a : ℕ) → a + 2 ≤ m → (f a +ℤ f (a + 2)) ≤ℤ (f (a + 1) +ℤ f (a + 1))

module _ (f : ℕ → ℤ) (m : ℕ) (concave : Concave f m) where
  -- the increment at b, which is j places after a, is at most that at a
  falls : (a b j : ℕ) → b ≡ a + j → b + 1 ≤ m → (f (b + 1) +ℤ f a) ≤ℤ (f (a + 1) +ℤ f b)
  falls a b zero e low =
      let same : b ≡ a = omega (arith, e) in omega (arith, ints, ap f same, ap (λ n. f (n + 1)) same)
  falls a b (suc j) e low =
      let before = falls a (a + j) j refl (omega (arith, e, low)) in
      let bend = concave (a + j) (omega (arith, e, low)) in
      let here : b ≡ a + j + 1 = omega (arith, e) in
      let next : b + 1 ≡ a + j + 2 = omega (arith, e) in
      omega (arith, ints, before, bend, ap f here, ap f next)

  -- where the last increment before l + 1 is not negative, nothing before is below the start
  rising : (l : ℕ) → l + 1 ≤ m → f l ≤ℤ f (l + 1) → (j : ℕ) → j ≤ l + 1 → f 0 ≤ℤ f j
  rising l low up zero bound_holds = omega (arith, ints)
  rising l low up (suc j) bound_holds =
      let before = rising l low up j (omega (arith, bound_holds)) in
      let step = falls j l (l - j) (omega (arith, bound_holds)) low in
      let next : suc j ≡ j + 1 = omega arith in
      omega (arith, ints, before, step, up, ap f next)

  -- two places as far from l on both sides are together at most twice what is at l
  middle : (l j : ℕ) → j ≤ l → l + j ≤ m → (f (l + j) +ℤ f (l - j)) ≤ℤ (f l +ℤ f l)
  middle l zero low high =
      let right : l + 0 ≡ l = omega arith in
      let left : l - 0 ≡ l = omega arith in
      omega (arith, ints, ap f right, ap f left)
  middle l (suc j) low high =
      let before = middle l j (omega (arith, low)) (omega (arith, high)) in
      let step = falls (l - suc j) (l + j) (j + suc j) (omega (arith, low)) (omega (arith, high)) in
      let left : l - suc j + 1 ≡ l - j = omega (arith, low) in
      let right : l + suc j ≡ l + j + 1 = omega arith in
      omega (arith, ints, before, step, ap f left, ap f right)

  -- where the last increment before l + 1 is negative, nothing after is above
  falling : (l : ℕ) → f (l + 1) <ℤ f l → (j : ℕ) → l + 1 + j ≤ m → f (l + 1 + j) ≤ℤ f (l + 1)
  falling l down zero low = let same : l + 1 + 0 ≡ l + 1 = omega arith in omega (arith, ints, ap f same)
  falling l down (suc j) low =
      let before = falling l down j (omega (arith, low)) in
      let step = falls l (l + 1 + j) (j + 1) (omega arith) (omega (arith, low)) in
      let next : l + 1 + suc j ≡ l + 1 + j + 1 = omega arith in
      omega (arith, ints, before, step, down, ap f next)

  -- at m, at most twice as far as l + 1, it is at most twice what bounds it there
  pub half : f 0 ≡ pos 0 → (l : ℕ) → l + 1 ≤ m → m ≤ l + 1 + (l + 1) → (most : ℤ) → pos 0 ≤ℤ most →
      f (l + 1) ≤ℤ most → f m ≤ℤ (most +ℤ most)
  half none l low high most some bound =
      by_lt_z (f (l + 1)) (f l) (λ down.
      let end : l + 1 + (m - (l + 1)) ≡ m = omega (arith, low) in
      omega (arith, ints, falling l down (m - (l + 1)) (omega (arith, low)), some, bound, ap f end))
      (λ up.
      let j = m - (l + 1) in
      let end : l + 1 + j ≡ m = omega (arith, low) in
      omega (
        arith,
        ints,
        middle (l + 1) j (omega (arith, high)) (omega (arith, low)),
        rising l low up (l + 1 - j) (omega arith),
        none,
        some,
        bound,
        ap f end,
      ))
