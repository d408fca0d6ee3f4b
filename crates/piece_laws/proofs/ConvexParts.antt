-- Two parts of a convex cost: with a part h of the way from x to y, the two numbers x + h and y - h together cost no
-- more than x and y do.
use Rattle.std.proofs.Common.{◌≡◌, ℕ, zero, suc, ◌-◌, ◌≤◌, ℤ, pos, negsuc, ◌+ℤ◌, ◌-ℤ◌, neg_ℤ, ◌≤ℤ◌, true, refl, ap}
use Rattle.std.proofs.Common.{arith, ◌⊎◌, inl, inr}
use Rattle.std.proofs.lemmas.Int.{ints}
use Rattle.std.proofs.lemmas.Bool.Decides.{nat_tests}
use Rattle.fold_theory.specs.Costs.{IsConvexOn}
use Rattle.lattice_theory.specs.Vectors.{is_between}

-- a number between 0 and d, by the two natural numbers into which it splits d
record Split (h d : ℤ) : Type 0 where
  part : ℕ
  rest : ℕ
  is : ((h ≡ pos part) × (d ≡ pos rest +ℤ pos part)) ⊎ ((h ≡ neg_ℤ (pos part)) × (d ≡ neg_ℤ (pos rest +ℤ pos part)))

split_of : (h d : ℤ) → is_between h d ≡ true → Split h d
split_of (pos k) (pos m) b =
    let low : k ≤ m = grind (arith, nat_tests) in
    record { part = k; rest = m - k; is = inl (refl, omega (arith, ints)) }
split_of (pos zero) (negsuc m) b = record { part = 0; rest = suc m; is = inr (refl, omega (arith, ints)) }
split_of (pos (suc k)) (negsuc m) b = absurd (grind (arith, nat_tests))
split_of (negsuc k) (pos zero) b = absurd (grind (arith, nat_tests))
split_of (negsuc k) (pos (suc m)) b = absurd (grind (arith, nat_tests))
split_of (negsuc k) (negsuc m) b =
    let low : k ≤ m = grind (arith, nat_tests) in
    record { part = suc k; rest = m - k; is = inr (refl, omega (arith, ints)) }

module _ (f : ℤ → ℤ) (lo hi : ℤ) (convex : IsConvexOn f lo hi) where
  -- the slope does not fall, n places on
  slope_rises : (n : ℕ) (v : ℤ) → lo ≤ℤ v → (v +ℤ pos n +ℤ pos 1) ≤ℤ hi →
      (f (v +ℤ pos 1) +ℤ f (v +ℤ pos n)) ≤ℤ (f v +ℤ f (v +ℤ pos n +ℤ pos 1))
  slope_rises zero v low high =
      let a : v +ℤ pos 0 ≡ v = omega (arith, ints) in
      let e : f (v +ℤ pos 0) ≡ f v = ap f a in
      let g : f (v +ℤ pos 0 +ℤ pos 1) ≡ f (v +ℤ pos 1) = ap (λ u. f (u +ℤ pos 1)) a in
      omega (arith, ints, e, g)
  slope_rises (suc n) v low high =
      let a : v +ℤ pos (suc n) ≡ v +ℤ pos n +ℤ pos 1 = omega (arith, ints) in
      let before = slope_rises n v low (omega (arith, ints, high)) in
      let bend = convex (v +ℤ pos (suc n)) (omega (arith, ints, low)) (omega (arith, ints, high)) in
      let left : v +ℤ pos (suc n) -ℤ pos 1 ≡ v +ℤ pos n = omega (arith, ints) in
      let e : f (v +ℤ pos (suc n) -ℤ pos 1) ≡ f (v +ℤ pos n) = ap f left in
      let g : f (v +ℤ pos (suc n)) ≡ f (v +ℤ pos n +ℤ pos 1) = ap f a in
      omega (arith, ints, before, bend, e, g)

  -- of two moves of h, the one that begins n places on costs at least as much
  moves_rise : (h n : ℕ) (v : ℤ) → lo ≤ℤ v → (v +ℤ pos n +ℤ pos h) ≤ℤ hi →
      (f (v +ℤ pos h) +ℤ f (v +ℤ pos n)) ≤ℤ (f v +ℤ f (v +ℤ pos n +ℤ pos h))
  moves_rise zero n v low high =
      let a : v +ℤ pos 0 ≡ v = omega (arith, ints) in
      let b : v +ℤ pos n +ℤ pos 0 ≡ v +ℤ pos n = omega (arith, ints) in
      omega (arith, ints, ap f a, ap f b)
  moves_rise (suc h) n v low high =
      let before = moves_rise h n v low (omega (arith, ints, high)) in
      let step = slope_rises n (v +ℤ pos h) (omega (arith, ints, low)) (omega (arith, ints, high)) in
      let a : v +ℤ pos h +ℤ pos 1 ≡ v +ℤ pos (suc h) = omega (arith, ints) in
      let b : v +ℤ pos h +ℤ pos n ≡ v +ℤ pos n +ℤ pos h = omega (arith, ints) in
      let c : v +ℤ pos h +ℤ pos n +ℤ pos 1 ≡ v +ℤ pos n +ℤ pos (suc h) = omega (arith, ints) in
      omega (arith, ints, before, step, ap f a, ap f b, ap f c)

  -- from x to y, a part h of the way and the rest
  pub two_parts : (x y h : ℤ) → lo ≤ℤ x → x ≤ℤ hi → lo ≤ℤ y → y ≤ℤ hi → is_between h (y -ℤ x) ≡ true →
      (f (x +ℤ h) +ℤ f (y -ℤ h)) ≤ℤ (f x +ℤ f y)
  two_parts x y h lx hx ly hy b = by (split_of h (y -ℤ x) b).is
    where
      k : ℕ
      k = (split_of h (y -ℤ x) b).part

      n : ℕ
      n = (split_of h (y -ℤ x) b).rest

      by : ((h ≡ pos k) × (y -ℤ x ≡ pos n +ℤ pos k)) ⊎ ((h ≡ neg_ℤ (pos k)) × (y -ℤ x ≡ neg_ℤ (pos n +ℤ pos k))) →
          (f (x +ℤ h) +ℤ f (y -ℤ h)) ≤ℤ (f x +ℤ f y)
      by (inl p) =
          let eh : h ≡ pos k = p.0 in
          let ed : y -ℤ x ≡ pos n +ℤ pos k = p.1 in
          let a : x +ℤ h ≡ x +ℤ pos k = omega (arith, ints) in
          let c : y -ℤ h ≡ x +ℤ pos n = omega (arith, ints) in
          let e : y ≡ x +ℤ pos n +ℤ pos k = omega (arith, ints) in
          let rise = moves_rise k n x lx (omega (arith, ints)) in
          omega (arith, ints, rise, ap f a, ap f c, ap f e)
      by (inr p) =
          let eh : h ≡ neg_ℤ (pos k) = p.0 in
          let ed : y -ℤ x ≡ neg_ℤ (pos n +ℤ pos k) = p.1 in
          let a : x +ℤ h ≡ y +ℤ pos n = omega (arith, ints) in
          let c : y -ℤ h ≡ y +ℤ pos k = omega (arith, ints) in
          let e : x ≡ y +ℤ pos n +ℤ pos k = omega (arith, ints) in
          let rise = moves_rise k n y ly (omega (arith, ints)) in
          omega (arith, ints, rise, ap f a, ap f c, ap f e)
