-- Vectors between two others, and vectors that are made place by place.
use Rattle.std.proofs.Common.{◌≡◌, ℕ, zero, suc, ◌+◌, ◌*◌, ◌%◌, ◌^◌, ◌<◌, ◌≤◌, ℤ, pos, negsuc, ◌+ℤ◌, ◌*ℤ◌, ◌≤ℤ◌, []}
use Rattle.std.proofs.Common.{◌∷◌, ◌++◌, length, take, get_or, refl, ap, arith, sym, subst, ◌∙◌, FitsSigned}
use mir.Syntax.{Width}
use Rattle.std.specs.List.{AllZip}
use Rattle.std.proofs.lemmas.List.{take_more, take_all, length-take}
use Rattle.std.proofs.lemmas.List.Elements.{AllZip-push, AllZip-get_or}
use Rattle.std.proofs.lemmas.Nat.{one_shl}
use Rattle.std.proofs.lemmas.Int.{ints}
use Rattle.lattice_theory.specs.Lists.{zip_with}
use Rattle.lattice_theory.specs.Vectors.{Vector, add, scale}
use Rattle.step_targets.specs.Targets.{AreBetween, after}

-- ---- between two numbers

-- what is between two numbers of a type is of that type
pub FitsSigned-between : (w : Width) (lower upper a : ℤ) → FitsSigned w lower → FitsSigned w upper → lower ≤ℤ a →
    a ≤ℤ upper → FitsSigned w a
FitsSigned-between w lower (pos m) (pos n) low high above below =
    record { sfits = omega (arith, ints, high.sfits, below) }
FitsSigned-between w lower (negsuc m) (pos n) low high above below = absurd (omega (arith, ints, below))
FitsSigned-between w (negsuc m) upper (negsuc n) low high above below =
    record { sfits = omega (arith, ints, low.sfits, above) }
FitsSigned-between w (pos m) upper (negsuc n) low high above below = absurd (omega (arith, ints, above))

-- ---- between two vectors

-- one more place
pub AreBetween-more : (lower upper now new : Vector) (n : ℕ) (x : ℤ) → n < length lower → n < length upper →
    AreBetween (take n lower) (take n upper) now → new ≡ now ++ x ∷ [] → get_or lower n (pos 0) ≤ℤ x →
    x ≤ℤ get_or upper n (pos 0) →
    AreBetween (take (n + 1) lower) (take (n + 1) upper) new
AreBetween-more lower upper now new n x low high within is above below =
    rw (is, take_more lower n (pos 0) low, take_more upper n (pos 0) high) (
      AllZip-push ◌≤ℤ◌ (take n lower) now (get_or lower n (pos 0)) x within.0 above,
      AllZip-push ◌≤ℤ◌ now (take n upper) x (get_or upper n (pos 0)) within.1 below,
    )

-- all places
pub AreBetween-all : (lower upper v : Vector) (n : ℕ) → length lower ≤ n → length upper ≤ n →
    AreBetween (take n lower) (take n upper) v →
    AreBetween lower upper v
AreBetween-all lower upper v n low high within = rw (take_all n lower low, take_all n upper high) at within

-- ---- place by place

module _ (f : ℤ → ℤ → ℤ) where
  zip_with-push : (xs ys : Vector) (x y : ℤ) → length xs ≡ length ys →
      zip_with f (xs ++ x ∷ []) (ys ++ y ∷ []) ≡ zip_with f xs ys ++ f x y ∷ []
  zip_with-push [] [] x y same = refl
  zip_with-push [] (b ∷ ys) x y same = absurd (omega arith)
  zip_with-push (a ∷ xs) [] x y same = absurd (omega arith)
  zip_with-push (a ∷ xs) (b ∷ ys) x y same = ap (λ zs. f a b ∷ zs) (zip_with-push xs ys x y (omega arith))

  -- one more place
  pub zip_with-more : (xs ys now new : Vector) (n : ℕ) → n < length xs → n < length ys →
      now ≡ zip_with f (take n xs) (take n ys) →
      new ≡ now ++ f (get_or xs n (pos 0)) (get_or ys n (pos 0)) ∷ [] →
      new ≡ zip_with f (take (n + 1) xs) (take (n + 1) ys)
  zip_with-more xs ys now new n low high so_far is =
      let same : length (take n xs) ≡ length (take n ys) = omega (arith, length-take n xs, length-take n ys) in
      is ∙ ap (λ zs. zs ++ f (get_or xs n (pos 0)) (get_or ys n (pos 0)) ∷ []) so_far
      ∙ sym (zip_with-push (take n xs) (take n ys) (get_or xs n (pos 0)) (get_or ys n (pos 0)) same)
      ∙ ap (λ us. zip_with f us (take n ys ++ get_or ys n (pos 0) ∷ [])) (sym (take_more xs n (pos 0) low))
      ∙ ap (λ us. zip_with f (take (n + 1) xs) us) (sym (take_more ys n (pos 0) high))

  -- all places
  pub zip_with-all : (xs ys now : Vector) (n : ℕ) → length xs ≤ n → length ys ≤ n →
      now ≡ zip_with f (take n xs) (take n ys) → now ≡ zip_with f xs ys
  zip_with-all xs ys now n low high so_far = so_far ∙ ap (λ us. zip_with f us (take n ys)) (take_all n xs low)
      ∙ ap (zip_with f xs) (take_all n ys high)

  -- the entry at a place
  pub get_or-zip_with : (xs ys : Vector) (n : ℕ) (d : ℤ) → n < length xs → n < length ys →
      get_or (zip_with f xs ys) n d ≡ f (get_or xs n (pos 0)) (get_or ys n (pos 0))
  get_or-zip_with [] ys n d low high = absurd (omega arith)
  get_or-zip_with (x ∷ xs) [] n d low high = absurd (omega arith)
  get_or-zip_with (x ∷ xs) (y ∷ ys) zero d low high = refl
  get_or-zip_with (x ∷ xs) (y ∷ ys) (suc n) d low high = get_or-zip_with xs ys n d (omega arith) (omega arith)

-- ---- the end of a step

-- so many times the second entry, added to the first
abbrev pub further : ℕ → ℤ → ℤ → ℤ
further s a b = a +ℤ pos s *ℤ b

zip_with-scale : (s : ℕ) (u v : Vector) → add u (scale (pos s) v) ≡ zip_with (further s) u v
zip_with-scale s [] v = refl
zip_with-scale s (a ∷ u) [] = refl
zip_with-scale s (a ∷ u) (b ∷ v) = ap (λ zs. further s a b ∷ zs) (zip_with-scale s u v)

-- the end of a step, place by place
pub stepped-places : (point vector : Vector) (k s : ℕ) → s ≡ (1 * 2 ^ k) % 2 ^ 64 → k < 64 →
    after k point vector ≡ zip_with (further s) point vector
stepped-places point vector k s is short =
    ap (λ n. add point (scale (pos n) vector)) (sym (is ∙ one_shl k 64 short)) ∙ zip_with-scale s point vector

-- where it is within the bounds, each entry is
pub stepped-within : (lower upper point vector : Vector) (k s n : ℕ) → s ≡ (1 * 2 ^ k) % 2 ^ 64 → k < 64 →
    n < length point → length vector ≡ length point →
    length lower ≡ length point →
    AreBetween lower upper (after k point vector) →
    let moved = further s (get_or point n (pos 0)) (get_or vector n (pos 0)) in
    (get_or lower n (pos 0) ≤ℤ moved) × (moved ≤ℤ get_or upper n (pos 0))
stepped-within lower upper point vector k s n is short inside width lowers within =
    let end : Vector = zip_with (further s) point vector in
    let there : AreBetween lower upper end = subst (AreBetween lower upper) (stepped-places point vector k s is short)
    within in
    let entry = get_or-zip_with (further s) point vector n (pos 0) inside (omega (arith, inside, width)) in
    let low : get_or lower n (pos 0) ≤ℤ get_or end n (pos 0) =
    AllZip-get_or ◌≤ℤ◌ lower end n (pos 0) (pos 0) there.0 (omega (arith, inside, lowers)) in
    let high : get_or end n (pos 0) ≤ℤ get_or upper n (pos 0) =
    AllZip-get_or ◌≤ℤ◌ end upper n (pos 0) (pos 0) there.1 (omega (
      arith,
      inside,
      lowers,
      length-all lower end there.0,
    )) in
    (subst (λ a. get_or lower n (pos 0) ≤ℤ a) entry low, subst (λ a. a ≤ℤ get_or upper n (pos 0)) entry high)
  where
    length-all : (xs ys : Vector) → AllZip ◌≤ℤ◌ xs ys → length xs ≡ length ys
    length-all [] [] all = refl
    length-all [] (y ∷ ys) all = absurd all
    length-all (x ∷ xs) [] all = absurd all
    length-all (x ∷ xs) (y ∷ ys) all = ap suc (length-all xs ys all.1)
