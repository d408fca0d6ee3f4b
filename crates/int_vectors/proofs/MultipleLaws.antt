-- Laws of the greatest multiple of one vector that is conformally below another.
use Rattle.std.proofs.Common.{◌≡◌, ℕ, zero, suc, ◌*◌, ◌<◌, ◌≤◌, pos, negsuc, ℤ, ◌*ℤ◌, true, false, ◌&&◌, List, [], ◌∷◌}
use Rattle.std.proofs.Common.{length, refl, ap, arith, sym, ◌∙◌, ◌⊎◌, inl, inr, min, fold, unsigned_abs, ◌/◌, ◌≢◌}
use Rattle.std.proofs.Common.{nat_le}
use Rattle.std.specs.List.{AllByRecursion, list_all}
use Rattle.std.proofs.lemmas.Int.{ints}
use Rattle.std.proofs.lemmas.Bool.Decides.{nat_tests}
use Rattle.std.proofs.Math.Nat.{le-div_iff_mul-le}
use Rattle.std.proofs.lemmas.Bool.{and_parts}
use Rattle.lattice_theory.specs.Vectors.{Vector, conforms, ◌⊑◌, is_between, is_zero, scale, IsGreatestMultiple}
use Rattle.lattice_theory.specs.Lattices.{multiples, least_of, greatest_multiple}

-- ---- the loop: the least quotient so far

-- where nothing is left of one of the two, the least so far is the least
pub multiples-done : (m whole : ℕ) (e v : Vector) → (length e ≡ 0) ⊎ (length v ≡ 0) →
    fold min m (multiples e v) ≡ whole → m ≡ whole
multiples-done m whole [] v ended so_far = so_far
multiples-done m whole (a ∷ e) [] ended so_far = grind arith
multiples-done m whole (a ∷ e) (b ∷ v) (inl none) so_far = absurd (omega arith)
multiples-done m whole (a ∷ e) (b ∷ v) (inr none) so_far = absurd (omega arith)

-- where e is not zero, some entry counts
pub multiples-there : (e v : Vector) → length e ≡ length v → is_zero e ≡ false → 0 < length (multiples e v)
multiples-there [] [] same none = absurd cc
multiples-there [] (b ∷ v) same none = absurd (omega arith)
multiples-there (a ∷ e) [] same none = absurd (omega arith)
multiples-there (pos zero ∷ e) (b ∷ v) same none = multiples-there e v (omega arith) none
multiples-there (pos (suc n) ∷ e) (b ∷ v) same none = omega arith
multiples-there (negsuc n ∷ e) (b ∷ v) same none = omega arith

quotient-below : (y x m : ℕ) → y ≤ m → y / suc x ≤ m
quotient-below y x m small = grind arith

-- no quotient is larger than the entries of v
pub multiples-below : (e v : Vector) (m : ℕ) → AllByRecursion (λ b. unsigned_abs b ≤ m) v →
    AllByRecursion (λ x. x ≤ m) (multiples e v)
multiples-below [] v m small = tt
multiples-below (a ∷ e) [] m small = tt
multiples-below (pos zero ∷ e) (b ∷ v) m small = multiples-below e v m small.1
multiples-below (pos (suc n) ∷ e) (b ∷ v) m small = (
  quotient-below (unsigned_abs b) n m small.0,
  multiples-below e v m small.1,
)
multiples-below (negsuc n ∷ e) (b ∷ v) m small = (
  quotient-below (unsigned_abs b) n m small.0,
  multiples-below e v m small.1,
)

-- the least of numbers that are at most m, taken from m on, is the least of them
pub fold-min-least : (m : ℕ) (xs : List ℕ) → 0 < length xs → AllByRecursion (λ x. x ≤ m) xs →
    fold min m xs ≡ least_of xs
fold-min-least m [] some below = absurd (omega arith)
fold-min-least m (x ∷ xs) some below = let first : x ≤ m = below.0 in ap (λ a. fold min a xs) (omega arith)

-- ---- the least quotient is the greatest multiple

-- k times x fits into y exactly where k is at most the quotient
times-fits : (k x y : ℕ) → nat_le (k * suc x) y ≡ nat_le k (y / suc x)
times-fits k x y = grind (arith, nat_tests, le-div_iff_mul-le {k = suc x} {x = k} {y = y})

-- k times a is between 0 and b exactly where k is at most the quotient
is_between-times : (k : ℕ) (a b : ℤ) → a ≢ pos 0 → is_between a b ≡ true →
    is_between (pos k *ℤ a) b ≡ nat_le k (unsigned_abs b / unsigned_abs a)
is_between-times k (pos zero) b nonzero below = absurd (nonzero refl)
is_between-times k (pos (suc a)) (pos b) nonzero below = grind (arith, nat_tests, times-fits k a b)
is_between-times k (pos (suc a)) (negsuc b) nonzero below = grind (arith, nat_tests)
is_between-times k (negsuc a) (pos zero) nonzero below = grind (arith, nat_tests, times-fits k a 0)
is_between-times k (negsuc a) (pos (suc b)) nonzero below = grind (arith, nat_tests)
is_between-times k (negsuc a) (negsuc b) nonzero below = grind (arith, nat_tests, times-fits k a (suc b))

-- k times e is conformally below v exactly where k is at most each quotient
conforms-scale : (k : ℕ) (e v : Vector) → conforms e v ≡ true →
    conforms (scale (pos k) e) v ≡ list_all (λ x. nat_le k x) (multiples e v)
conforms-scale k [] [] below = refl
conforms-scale k [] (b ∷ v) below = absurd cc
conforms-scale k (a ∷ e) [] below = absurd cc
conforms-scale k (pos zero ∷ e) (b ∷ v) below =
    let parts : (is_between (pos zero) b ≡ true) × (conforms e v ≡ true) = and_parts _ _ below in
    let here : is_between (pos k *ℤ pos zero) b ≡ true = grind (arith, nat_tests, ints) in
    ap (λ t. t && conforms (scale (pos k) e) v) here ∙ conforms-scale k e v parts.1
conforms-scale k (pos (suc n) ∷ e) (b ∷ v) below =
    let parts = and_parts _ _ below in
    let here = is_between-times k (pos (suc n)) b (λ z. absurd (cc)) parts.0 in
    ap (λ t. t && conforms (scale (pos k) e) v) here ∙ ap (λ t. nat_le k (unsigned_abs b / suc n) && t)
    (conforms-scale k e v parts.1)
conforms-scale k (negsuc n ∷ e) (b ∷ v) below =
    let parts = and_parts _ _ below in
    let here = is_between-times k (negsuc n) b (λ z. absurd (cc)) parts.0 in
    ap (λ t. t && conforms (scale (pos k) e) v) here ∙ ap (λ t. nat_le k (unsigned_abs b / suc n) && t)
    (conforms-scale k e v parts.1)

-- a number is at most the least, from m on, exactly where it is at most m and each number
fold-min-above : (k m : ℕ) (xs : List ℕ) → nat_le k (fold min m xs) ≡ (nat_le k m && list_all (λ x. nat_le k x) xs)
fold-min-above k m [] = grind (arith, nat_tests)
fold-min-above k m (x ∷ xs) = fold-min-above k (min m x) xs ∙ grind (arith, nat_tests)

least_of-above : (k : ℕ) (xs : List ℕ) → 0 < length xs → nat_le k (least_of xs) ≡ list_all (λ x. nat_le k x) xs
least_of-above k [] some = absurd (omega arith)
least_of-above k (x ∷ xs) some = fold-min-above k x xs

-- the least of the quotients is the greatest multiple
pub greatest_multiple-IsGreatestMultiple : (e v : Vector) → length e ≡ length v → is_zero e ≡ false → e ⊑ v →
    IsGreatestMultiple e v (greatest_multiple e v)
greatest_multiple-IsGreatestMultiple e v same none below =
    let some = multiples-there e v same none in
    let least = λ (k : ℕ). conforms-scale k e v below ∙ sym (least_of-above k (multiples e v) some) in
    record {
      below = least (greatest_multiple e v) ∙ below_itself (greatest_multiple e v);
      greatest = λ k fits. told (sym (least k) ∙ fits);
    }
  where
    below_itself : (n : ℕ) → nat_le n n ≡ true
    below_itself n = grind (arith, nat_tests)

    told : {m n : ℕ} → nat_le m n ≡ true → m ≤ n
    told test = grind (arith, nat_tests)
