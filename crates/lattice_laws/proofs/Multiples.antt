-- Multiples of vectors: as sums, of sums, their norms and products, and the greatest one below a vector.
use Rattle.std.proofs.Common.{◌≡◌, ℕ, zero, suc, ◌*◌, ◌≤◌, ◌/◌, ℤ, pos, negsuc, ◌+ℤ◌, ◌*ℤ◌, neg_ℤ, unsigned_abs, true}
use Rattle.std.proofs.Common.{◌&&◌, min, fold, List, ◌∷◌, ◌++◌, length, map, refl, ap, arith, sym, ◌∙◌, [], false}
use Rattle.std.specs.List.{AllByRecursion}
use Rattle.std.proofs.lemmas.Int.{ints, unsigned_abs-mul}
use Rattle.std.proofs.lemmas.Bool.Decides.{nat_tests}
use Rattle.std.proofs.Math.Nat.{le-div_iff_mul-le, mul-le-mul_right}
use Rattle.std.proofs.Math.IntN.{zero-*ℤ, *ℤ-zero, suc_ℤ-*ℤ, *ℤ_comm, *ℤ-negsuc}
use Rattle.lattice_theory.specs.Vectors.{Vector, ◌⊑◌, conforms, is_between, norm1, add, scale, opposite, zeros, dot}
use Rattle.lattice_theory.specs.Vectors.{is_zero}
use Rattle.lattice_theory.specs.Lattices.{multiples, least_of, greatest_multiple}
use Rattle.lattice_laws.proofs.Tests.{and_true}
use Rattle.lattice_laws.proofs.Products.{times_sum, times_opposite}
use Rattle.lattice_laws.proofs.Conformal.{norm1-cons}
use borrow.Author.Differences.{up, down}
use Rattle.lattice_laws.proofs.Signs.{IsPart, part_of, between_of}
use Rattle.lattice_laws.proofs.Sums.{add_zeros}

-- ---- the greatest multiple

-- k times a is between 0 and b where it is no larger
pub between_times : (k : ℕ) (a b : ℤ) → is_between a b ≡ true → k * unsigned_abs a ≤ unsigned_abs b →
    is_between (pos k *ℤ a) b ≡ true
between_times k (pos a) (pos b) part low = grind (arith, nat_tests, ints)
between_times k (pos a) (negsuc b) part low = grind (arith, nat_tests, ints)
between_times k (negsuc a) (pos b) part low = grind (arith, nat_tests, ints)
between_times k (negsuc a) (negsuc b) part low = grind (arith, nat_tests, ints)

-- what is at most the quotient fits
fits : (k x y : ℕ) → k ≤ y / suc x → k * suc x ≤ y
fits k x y low = grind (arith, le-div_iff_mul-le {k = suc x} {x = k} {y = y})

-- k times e is below v where k is at most each quotient
scale_below : (k : ℕ) (e v : Vector) → e ⊑ v → AllByRecursion (λ x. k ≤ x) (multiples e v) → scale (pos k) e ⊑ v
scale_below k [] [] below low = refl
scale_below k [] (b ∷ v) below low = absurd (cc)
scale_below k (a ∷ e) [] below low = absurd (cc)
scale_below k (pos zero ∷ e) (b ∷ v) below low =
    let p = and_true (is_between (pos zero) b) (conforms e v) below in
    let here = between_times k (pos zero) b p.0 (omega arith) in
    ap (λ t. t && conforms (scale (pos k) e) v) here ∙ scale_below k e v p.1 low
scale_below k (pos (suc n) ∷ e) (b ∷ v) below low =
    let p = and_true (is_between (pos (suc n)) b) (conforms e v) below in
    let here = between_times k (pos (suc n)) b p.0 (fits k n (unsigned_abs b) low.0) in
    ap (λ t. t && conforms (scale (pos k) e) v) here ∙ scale_below k e v p.1 low.1
scale_below k (negsuc n ∷ e) (b ∷ v) below low =
    let p = and_true (is_between (negsuc n) b) (conforms e v) below in
    let here = between_times k (negsuc n) b p.0 (fits k n (unsigned_abs b) low.0) in
    ap (λ t. t && conforms (scale (pos k) e) v) here ∙ scale_below k e v p.1 low.1

-- the least of the numbers is at most each of them
least_each : (xs : List ℕ) → AllByRecursion (λ x. least_of xs ≤ x) xs
least_each [] = tt
least_each (m ∷ xs) = let r = least_from m xs in (r.0, r.1)
  where
    least_from : (m : ℕ) (xs : List ℕ) → (fold min m xs ≤ m) × AllByRecursion (λ x. fold min m xs ≤ x) xs
    least_from m [] = (omega arith, tt)
    least_from m (x ∷ xs) = let r = least_from (min m x) xs in (omega (arith, r.0), (omega (arith, r.0), r.1))

-- the greatest multiple found is below
pub greatest_below : (e v : Vector) → e ⊑ v → scale (pos (greatest_multiple e v)) e ⊑ v
greatest_below e v below = scale_below (greatest_multiple e v) e v below (least_each (multiples e v))

divides : (x y : ℕ) → suc x ≤ y → 1 ≤ y / suc x
divides x y low = grind (arith, le-div_iff_mul-le {k = suc x} {x = 1} {y = y})

larger : (a b : ℤ) → is_between a b ≡ true → unsigned_abs a ≤ unsigned_abs b
larger a b between = grind (arith, nat_tests)

-- each entry that is not 0 fits at least once
each_fits : (e v : Vector) → e ⊑ v → AllByRecursion (λ x. 1 ≤ x) (multiples e v)
each_fits [] v below = tt
each_fits (a ∷ e) [] below = absurd (cc)
each_fits (pos zero ∷ e) (b ∷ v) below = each_fits e v (and_true (is_between (pos zero) b) (conforms e v) below).1
each_fits (pos (suc n) ∷ e) (b ∷ v) below =
    let p = and_true (is_between (pos (suc n)) b) (conforms e v) below in
    (divides n (unsigned_abs b) (larger (pos (suc n)) b p.0), each_fits e v p.1)
each_fits (negsuc n ∷ e) (b ∷ v) below =
    let p = and_true (is_between (negsuc n) b) (conforms e v) below in
    (divides n (unsigned_abs b) (larger (negsuc n) b p.0), each_fits e v p.1)

least_fits : (m : ℕ) (xs : List ℕ) → 1 ≤ m → AllByRecursion (λ x. 1 ≤ x) xs → 1 ≤ fold min m xs
least_fits m [] first others = first
least_fits m (x ∷ xs) first others = least_fits (min m x) xs (omega (arith, first, others.0)) others.1

-- the greatest multiple found is at least 1
pub multiple_some : (e v : Vector) → is_zero e ≡ false → e ⊑ v → 1 ≤ greatest_multiple e v
multiple_some [] v nonzero below = absurd (cc)
multiple_some (a ∷ e) [] nonzero below = absurd (cc)
multiple_some (pos zero ∷ e) (b ∷ v) nonzero below =
    multiple_some e v nonzero (and_true (is_between (pos zero) b) (conforms e v) below).1
multiple_some (pos (suc n) ∷ e) (b ∷ v) nonzero below =
    let all = each_fits (pos (suc n) ∷ e) (b ∷ v) below in
    least_fits (unsigned_abs b / suc n) (multiples e v) all.0 all.1
multiple_some (negsuc n ∷ e) (b ∷ v) nonzero below =
    let all = each_fits (negsuc n ∷ e) (b ∷ v) below in
    least_fits (unsigned_abs b / suc n) (multiples e v) all.0 all.1

-- ---- multiples as sums

pub scale_zero : (e : Vector) → scale (pos 0) e ≡ zeros (length e)
scale_zero [] = refl
scale_zero (a ∷ e) = λ i. zero-*ℤ a i ∷ scale_zero e i

pub scale_suc : (m : ℕ) (e : Vector) → scale (pos (suc m)) e ≡ add e (scale (pos m) e)
scale_suc m [] = refl
scale_suc m (a ∷ e) =
    let here : pos (suc m) *ℤ a ≡ a +ℤ pos m *ℤ a = omega (arith, ints, suc_ℤ-*ℤ (pos m) a) in
    λ i. here i ∷ scale_suc m e i

-- the norm of a multiple
pub norm-scale-abs : (x : ℤ) (g : Vector) → norm1 (scale x g) ≡ unsigned_abs x * norm1 g
norm-scale-abs x [] = omega arith
norm-scale-abs x (y ∷ g) =
    omega (
      arith,
      norm1-cons (x *ℤ y) (scale x g),
      ap (λ k. unsigned_abs x * k) (norm1-cons y g),
      unsigned_abs-mul x y,
      norm-scale-abs x g,
    )

pub norm-scale : (m : ℕ) (e : Vector) → norm1 (scale (pos m) e) ≡ m * norm1 e
norm-scale m e = norm-scale-abs (pos m) e

negsuc_times : (k : ℕ) (a : ℤ) → negsuc k *ℤ a ≡ neg_ℤ (pos (suc k) *ℤ a)
negsuc_times k a = *ℤ_comm (negsuc k) a ∙ *ℤ-negsuc a k ∙ ap neg_ℤ (*ℤ_comm a (pos (suc k)))

pub scale_negsuc : (k : ℕ) (z : Vector) → opposite (scale (pos (suc k)) z) ≡ scale (negsuc k) z
scale_negsuc k [] = refl
scale_negsuc k (a ∷ z) = λ i. sym (negsuc_times k a) i ∷ scale_negsuc k z i

pub scale-zeros : (a : ℤ) (n : ℕ) → scale a (zeros n) ≡ zeros n
scale-zeros a zero = refl
scale-zeros a (suc n) = λ i. *ℤ-zero a i ∷ scale-zeros a n i

pub length-scale : (a : ℤ) (u : Vector) → length (scale a u) ≡ length u
length-scale a [] = refl
length-scale a (b ∷ u) = ap suc (length-scale a u)

pub scale-append : (a : ℤ) (u v : Vector) → scale a (u ++ v) ≡ scale a u ++ scale a v
scale-append a [] v = refl
scale-append a (b ∷ u) v = ap (λ t. (a *ℤ b) ∷ t) (scale-append a u v)

-- ---- products with a multiple

times_swap_pos : (n : ℕ) (x y : ℤ) → x *ℤ (pos n *ℤ y) ≡ pos n *ℤ (x *ℤ y)
times_swap_pos zero x y = ap (λ k. x *ℤ k) (zero-*ℤ y) ∙ *ℤ-zero x ∙ sym (zero-*ℤ (x *ℤ y))
times_swap_pos (suc n) x y =
    omega (
      arith,
      ints,
      ap (λ k. x *ℤ k) (suc_ℤ-*ℤ (pos n) y),
      times_sum x (pos n *ℤ y) y,
      times_swap_pos n x y,
      suc_ℤ-*ℤ (pos n) (x *ℤ y),
    )

times_swap : (a x y : ℤ) → x *ℤ (a *ℤ y) ≡ a *ℤ (x *ℤ y)
times_swap (pos n) x y = times_swap_pos n x y
times_swap (negsuc n) x y =
    ap (λ k. x *ℤ k) (negsuc_times n y)
    ∙ times_opposite x (pos (suc n) *ℤ y)
    ∙ ap neg_ℤ (times_swap_pos (suc n) x y)
    ∙ sym (negsuc_times n (x *ℤ y))

pub dot-scale : (a : ℤ) (u v : Vector) → dot u (scale a v) ≡ a *ℤ dot u v
dot-scale a [] v = sym (*ℤ-zero a)
dot-scale a (x ∷ u) [] = sym (*ℤ-zero a)
dot-scale a (x ∷ u) (y ∷ v) = omega (arith, ints, times_swap a x y, dot-scale a u v, times_sum a (x *ℤ y) (dot u v))

pub rows-scale : (rows : List Vector) (a : ℤ) (u : Vector) →
    map (λ row. dot row (scale a u)) rows ≡ scale a (map (λ row. dot row u) rows)
rows-scale [] a u = refl
rows-scale (row ∷ rows) a u = λ i. dot-scale a row u i ∷ rows-scale rows a u i

-- ---- multiples of one vector

-- multiples of one generator add up
times_sum_left : (a b x : ℤ) → (a +ℤ b) *ℤ x ≡ a *ℤ x +ℤ b *ℤ x
times_sum_left a b x = omega (arith, ints, *ℤ_comm (a +ℤ b) x, *ℤ_comm a x, *ℤ_comm b x, times_sum x a b)

pub scale-sum : (a b : ℤ) (g : Vector) → scale (a +ℤ b) g ≡ add (scale a g) (scale b g)
scale-sum a b [] = refl
scale-sum a b (x ∷ g) = λ i. times_sum_left a b x i ∷ scale-sum a b g i

pub scale_once : (g : Vector) → scale (pos 1) g ≡ g
scale_once g = scale_suc 0 g ∙ ap (add g) (scale_zero g) ∙ add_zeros g (length g) refl

pub scale_back : (g : Vector) → scale (negsuc 0) g ≡ opposite g
scale_back g = sym (scale_negsuc 0 g) ∙ ap opposite (scale_once g)

pub scale-add : (a : ℤ) (u v : Vector) → scale a (add u v) ≡ add (scale a u) (scale a v)
scale-add a [] v = refl
scale-add a (b ∷ u) [] = refl
scale-add a (b ∷ u) (c ∷ v) = λ i. times_sum a b c i ∷ scale-add a u v i

-- a multiple of the opposite
pub scale-turned : (n : ℕ) (g : Vector) → scale (pos n) (opposite g) ≡ opposite (scale (pos n) g)
scale-turned n [] = refl
scale-turned n (a ∷ g) = λ i. times_opposite (pos n) a i ∷ scale-turned n g i

-- ---- parts of a number give parts of the multiple

-- the positive and the negative part of a product
up_times : (m : ℕ) (x : ℤ) → up (pos m *ℤ x) ≡ m * up x
up_times m (pos k) = grind (arith, ints)
up_times m (negsuc k) = grind (arith, ints)

down_times : (m : ℕ) (x : ℤ) → down (pos m *ℤ x) ≡ m * down x
down_times m (pos k) = grind (arith, ints)
down_times m (negsuc k) = grind (arith, ints)

up_turned : (m : ℕ) (x : ℤ) → up (negsuc m *ℤ x) ≡ suc m * down x
up_turned m (pos k) = grind (arith, ints)
up_turned m (negsuc k) = grind (arith, ints)

down_turned : (m : ℕ) (x : ℤ) → down (negsuc m *ℤ x) ≡ suc m * up x
down_turned m (pos k) = grind (arith, ints)
down_turned m (negsuc k) = grind (arith, ints)

-- a part of a number times another one
part_times : (a c x : ℤ) → is_between a c ≡ true → is_between (a *ℤ x) (c *ℤ x) ≡ true
part_times a c x part = between_of (a *ℤ x) (c *ℤ x) (by a c (part_of a c part))
  where
    by : (a c : ℤ) → IsPart a c → IsPart (a *ℤ x) (c *ℤ x)
    by (pos m) (pos n) p = record {
      ups = omega (arith, up_times m x, up_times n x, mul-le-mul_right (up x) p.ups);
      downs = omega (arith, down_times m x, down_times n x, mul-le-mul_right (down x) p.ups);
    }
    by (pos zero) (negsuc n) p = record { ups = omega (arith, up_times 0 x); downs = omega (arith, down_times 0 x) }
    by (pos (suc m)) (negsuc n) p = absurd (omega (arith, p.ups))
    by (negsuc m) (pos n) p = absurd (omega (arith, p.downs))
    by (negsuc m) (negsuc n) p = record {
      ups = omega (arith, up_turned m x, up_turned n x, mul-le-mul_right (down x) p.downs);
      downs = omega (arith, down_turned m x, down_turned n x, mul-le-mul_right (up x) p.downs);
    }

-- parts of the number give parts of the multiple
pub scale-below : (a c : ℤ) (g : Vector) → is_between a c ≡ true → scale a g ⊑ scale c g
scale-below a c [] part = refl
scale-below a c (x ∷ g) part =
    ap (λ t. t && conforms (scale a g) (scale c g)) (part_times a c x part) ∙ scale-below a c g part
