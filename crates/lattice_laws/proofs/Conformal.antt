-- Vectors under the conformal order: an order, what is left over a vector below, norms and opposites.
use Rattle.std.proofs.Common.{◌≡◌, ℕ, zero, suc, ◌+◌, ◌<◌, ◌≤◌, ℤ, pos, negsuc, ◌+ℤ◌, ◌-ℤ◌, neg_ℤ, unsigned_abs, Bool}
use Rattle.std.proofs.Common.{true, false, ◌&&◌, ◌∷◌, ◌++◌, length, take, drop, refl, ap, arith, sym, ◌∙◌, ◌⊎◌, inl}
use Rattle.std.proofs.Common.{inr, subst, get_or, []}
use Rattle.std.proofs.lemmas.List.{take-append-drop, take_all, take_more}
use Rattle.std.proofs.lemmas.Int.{ints}
use Rattle.std.proofs.lemmas.Bool.Decides.{nat_tests}
use Rattle.std.proofs.lemmas.List.Sums.{sum_by-cons}
use Rattle.std.specs.Ordering.{int_eq}
use Rattle.lattice_theory.specs.Lists.{all_zip}
use Rattle.lattice_theory.specs.Vectors.{Vector, ◌⊑◌, conforms, is_between, is_zero, leads_positive, norm1, add, sub}
use Rattle.lattice_theory.specs.Vectors.{opposite}
use Rattle.lattice_laws.proofs.Tests.{and_true, true_or_false, not_both}
use Rattle.lattice_laws.proofs.Signs.{between_refl, between_trans, between_antisym, between_opposite, between_turned}
use Rattle.lattice_laws.proofs.Signs.{between_rest, between_sum, abs_split, abs_opposite, abs_sum, abs_agree, agrees}
use Rattle.lattice_laws.proofs.Signs.{agrees_comm, agrees_opposites, agrees_own_opposite, agrees_parts}

-- ---- an order

pub conforms_refl : (u : Vector) → u ⊑ u
conforms_refl [] = refl
conforms_refl (a ∷ u) = ap (λ t. t && conforms u u) (between_refl a) ∙ conforms_refl u

pub conforms_trans : (u v w : Vector) → u ⊑ v → v ⊑ w → u ⊑ w
conforms_trans [] [] w h k = k
conforms_trans [] (b ∷ v) w h k = absurd (cc)
conforms_trans (a ∷ u) [] w h k = absurd (cc)
conforms_trans (a ∷ u) (b ∷ v) [] h k = absurd (cc)
conforms_trans (a ∷ u) (b ∷ v) (c ∷ w) h k =
    let p = and_true (is_between a b) (conforms u v) h in
    let q = and_true (is_between b c) (conforms v w) k in
    ap (λ t. t && conforms u w) (between_trans a b c p.0 q.0) ∙ conforms_trans u v w p.1 q.1

pub conforms_antisym : (u v : Vector) → u ⊑ v → v ⊑ u → u ≡ v
conforms_antisym [] [] h k = refl
conforms_antisym [] (b ∷ v) h k = absurd (cc)
conforms_antisym (a ∷ u) [] h k = absurd (cc)
conforms_antisym (a ∷ u) (b ∷ v) h k =
    let p = and_true (is_between a b) (conforms u v) h in
    let q = and_true (is_between b a) (conforms v u) k in
    let same : a ≡ b = between_antisym a b p.0 q.0 in
    let rest : u ≡ v = conforms_antisym u v p.1 q.1 in
    cc

pub length_below : (u v : Vector) → u ⊑ v → length u ≡ length v
length_below [] [] h = refl
length_below [] (b ∷ v) h = absurd (cc)
length_below (a ∷ u) [] h = absurd (cc)
length_below (a ∷ u) (b ∷ v) h = ap suc (length_below u v (and_true (is_between a b) (conforms u v) h).1)

-- the first entries, and the others, of a vector below
pub conforms-take : (n : ℕ) (u v : Vector) → u ⊑ v → take n u ⊑ take n v
conforms-take zero u v h = refl
conforms-take (suc n) [] [] h = refl
conforms-take (suc n) [] (b ∷ v) h = absurd (cc)
conforms-take (suc n) (a ∷ u) [] h = absurd (cc)
conforms-take (suc n) (a ∷ u) (b ∷ v) h =
    let p = and_true (is_between a b) (conforms u v) h in
    ap (λ t. t && conforms (take n u) (take n v)) p.0 ∙ conforms-take n u v p.1

pub conforms-append : (u v x y : Vector) → u ⊑ v → x ⊑ y → (u ++ x) ⊑ (v ++ y)
conforms-append [] [] x y h k = k
conforms-append [] (b ∷ v) x y h k = absurd (cc)
conforms-append (a ∷ u) [] x y h k = absurd (cc)
conforms-append (a ∷ u) (b ∷ v) x y h k =
    let p = and_true (is_between a b) (conforms u v) h in
    ap (λ t. t && conforms (u ++ x) (v ++ y)) p.0 ∙ conforms-append u v x y p.1 k

-- ---- what is left of z over a vector below it

pub rest_below : (y z : Vector) → y ⊑ z → sub z y ⊑ z
rest_below [] [] h = refl
rest_below [] (a ∷ z) h = absurd (cc)
rest_below (b ∷ y) [] h = absurd (cc)
rest_below (b ∷ y) (a ∷ z) h =
    let p = and_true (is_between b a) (conforms y z) h in
    ap (λ t. t && conforms (sub z y) z) (between_rest a b p.0) ∙ rest_below y z p.1

pub add_sub : (y z : Vector) → length y ≡ length z → add y (sub z y) ≡ z
add_sub [] [] e = refl
add_sub [] (a ∷ z) e = absurd (omega arith)
add_sub (b ∷ y) [] e = absurd (omega arith)
add_sub (b ∷ y) (a ∷ z) e =
    let one : b +ℤ (a -ℤ b) ≡ a = omega (arith, ints) in
    let rest : add y (sub z y) ≡ z = add_sub y z (omega arith) in
    cc

pub add_rest : (y z : Vector) → y ⊑ z → add y (sub z y) ≡ z
add_rest y z h = add_sub y z (length_below y z h)

pub sub-sub : (y z : Vector) → length y ≡ length z → sub z (sub z y) ≡ y
sub-sub [] [] e = refl
sub-sub [] (a ∷ z) e = absurd (omega arith)
sub-sub (b ∷ y) [] e = absurd (omega arith)
sub-sub (b ∷ y) (a ∷ z) e =
    let one : a -ℤ (a -ℤ b) ≡ b = omega (arith, ints) in
    let rest : sub z (sub z y) ≡ y = sub-sub y z (omega arith) in
    cc

pub length-add : (u v : Vector) (n : ℕ) → length u ≡ n → length v ≡ n → length (add u v) ≡ n
length-add [] v n e f = e
length-add (a ∷ u) [] n e f = absurd (omega arith)
length-add (a ∷ u) (b ∷ v) zero e f = absurd (omega arith)
length-add (a ∷ u) (b ∷ v) (suc n) e f = ap suc (length-add u v n (omega arith) (omega arith))

pub take-add : (n : ℕ) (u v : Vector) → take n (add u v) ≡ add (take n u) (take n v)
take-add zero u v = refl
take-add (suc n) [] v = refl
take-add (suc n) (a ∷ u) [] = refl
take-add (suc n) (a ∷ u) (b ∷ v) = ap (λ t. (a +ℤ b) ∷ t) (take-add n u v)

pub take-sub : (n : ℕ) (u v : Vector) → take n (sub u v) ≡ sub (take n u) (take n v)
take-sub zero u v = refl
take-sub (suc n) [] v = refl
take-sub (suc n) (a ∷ u) [] = refl
take-sub (suc n) (a ∷ u) (b ∷ v) = ap (λ t. (a -ℤ b) ∷ t) (take-sub n u v)

-- ---- norms

pub norm1-cons : (a : ℤ) (v : Vector) → norm1 (a ∷ v) ≡ unsigned_abs a + norm1 v
norm1-cons a v = sum_by-cons unsigned_abs a v

pub norm_split : (y z : Vector) → y ⊑ z → norm1 z ≡ norm1 y + norm1 (sub z y)
norm_split [] [] h = refl
norm_split [] (a ∷ z) h = absurd (cc)
norm_split (b ∷ y) [] h = absurd (cc)
norm_split (b ∷ y) (a ∷ z) h =
    let p = and_true (is_between b a) (conforms y z) h in
    let one = abs_split a b p.0 in
    let rest = norm_split y z p.1 in
    omega (arith, norm1-cons a z, norm1-cons b y, norm1-cons (a -ℤ b) (sub z y), one, rest)

pub norm_none : (v : Vector) → norm1 v ≡ 0 → is_zero v ≡ true
norm_none [] h = refl
norm_none (a ∷ v) h =
    let here : unsigned_abs a ≡ 0 = omega (arith, norm1-cons a v) in
    let e : int_eq a (pos 0) ≡ true = zero_is a here in
    ap (λ t. t && is_zero v) e ∙ norm_none v (omega (arith, norm1-cons a v))
  where
    zero_is : (a : ℤ) → unsigned_abs a ≡ 0 → int_eq a (pos 0) ≡ true
    zero_is a h = grind (arith, ints)

pub norm_of_zero : (v : Vector) → is_zero v ≡ true → norm1 v ≡ 0
norm_of_zero [] h = refl
norm_of_zero (a ∷ v) h =
    let p = and_true (int_eq a (pos 0)) (is_zero v) h in
    let e : unsigned_abs a ≡ 0 = none a p.0 in
    omega (arith, norm1-cons a v, norm_of_zero v p.1, e)
  where
    none : (a : ℤ) → int_eq a (pos 0) ≡ true → unsigned_abs a ≡ 0
    none a k = grind (arith, ints)

pub norm_some : (v : Vector) → is_zero v ≡ false → 0 < norm1 v
norm_some v h = by (norm1 v) refl
  where
    by : (n : ℕ) → norm1 v ≡ n → 0 < n
    by zero e = absurd (cc (norm_none v e))
    by (suc n) e = omega arith

pub nonzero_of_norm : (v : Vector) → 0 < norm1 v → is_zero v ≡ false
nonzero_of_norm v h = elim (true_or_false (is_zero v)) [
  | inl e ↦ absurd (omega (arith, norm_of_zero v e))
  | inr e ↦ e
]

zero_sum : (u v : Vector) → length u ≡ length v → is_zero v ≡ true → add u v ≡ u
zero_sum [] v l h = refl
zero_sum (a ∷ u) [] l h = absurd (omega arith)
zero_sum (a ∷ u) (b ∷ v) l h =
    let p = and_true (int_eq b (pos 0)) (is_zero v) h in
    let e : a +ℤ b ≡ a = drop_zero a b p.0 in
    λ i. e i ∷ zero_sum u v (omega arith) p.1 i
  where
    drop_zero : (a b : ℤ) → int_eq b (pos 0) ≡ true → a +ℤ b ≡ a
    drop_zero a b h = grind (arith, ints)

-- a vector below y with the norm of y is y
pub below_same : (u y : Vector) → u ⊑ y → norm1 y ≤ norm1 u → u ≡ y
below_same u y h e =
    let rest : norm1 (sub y u) ≡ 0 = omega (arith, norm_split u y h) in
    let size : length u ≡ length (sub y u) = length_below u y h ∙ sym (length_below (sub y u) y (rest_below u y h)) in
    sym (zero_sum u (sub y u) size (norm_none (sub y u) rest)) ∙ add_rest u y h

pub norm_below : (u y : Vector) → u ⊑ y → norm1 u ≤ norm1 y
norm_below u y h = omega (arith, norm_split u y h)

-- ---- opposites

pub length-opposite : (v : Vector) → length (opposite v) ≡ length v
length-opposite [] = refl
length-opposite (a ∷ v) = ap suc (length-opposite v)

pub opposite-opposite : (v : Vector) → opposite (opposite v) ≡ v
opposite-opposite [] = refl
opposite-opposite (a ∷ v) =
    let e : neg_ℤ (neg_ℤ a) ≡ a = omega (arith, ints) in
    let r : opposite (opposite v) ≡ v = opposite-opposite v in
    cc

pub opposite-add : (u v : Vector) → opposite (add u v) ≡ add (opposite u) (opposite v)
opposite-add [] v = refl
opposite-add (a ∷ u) [] = refl
opposite-add (a ∷ u) (b ∷ v) =
    let e : neg_ℤ (a +ℤ b) ≡ neg_ℤ a +ℤ neg_ℤ b = omega (arith, ints) in
    let r : opposite (add u v) ≡ add (opposite u) (opposite v) = opposite-add u v in
    cc

pub opposite-append : (u v : Vector) → opposite (u ++ v) ≡ opposite u ++ opposite v
opposite-append [] v = refl
opposite-append (a ∷ u) v = ap (λ t. neg_ℤ a ∷ t) (opposite-append u v)

pub opposite-take : (n : ℕ) (v : Vector) → opposite (take n v) ≡ take n (opposite v)
opposite-take zero v = refl
opposite-take (suc n) [] = refl
opposite-take (suc n) (a ∷ v) = ap (λ t. neg_ℤ a ∷ t) (opposite-take n v)

pub sub-opposite : (u v : Vector) → sub u v ≡ add u (opposite v)
sub-opposite [] v = refl
sub-opposite (a ∷ u) [] = refl
sub-opposite (a ∷ u) (b ∷ v) =
    let e : a -ℤ b ≡ a +ℤ neg_ℤ b = omega (arith, ints) in
    let r : sub u v ≡ add u (opposite v) = sub-opposite u v in
    cc

pub add_comm_v : (u v : Vector) → add u v ≡ add v u
add_comm_v [] [] = refl
add_comm_v [] (b ∷ v) = refl
add_comm_v (a ∷ u) [] = refl
add_comm_v (a ∷ u) (b ∷ v) =
    let e : a +ℤ b ≡ b +ℤ a = omega (arith, ints) in
    let r : add u v ≡ add v u = add_comm_v u v in
    cc

pub conforms-opposite : (u v : Vector) → u ⊑ v → opposite u ⊑ opposite v
conforms-opposite [] [] h = refl
conforms-opposite [] (b ∷ v) h = absurd (cc)
conforms-opposite (a ∷ u) [] h = absurd (cc)
conforms-opposite (a ∷ u) (b ∷ v) h =
    let p = and_true (is_between a b) (conforms u v) h in
    ap (λ t. t && conforms (opposite u) (opposite v)) (between_opposite a b p.0) ∙ conforms-opposite u v p.1

pub conforms_turned : (u v : Vector) → conforms u (opposite v) ≡ conforms (opposite u) v
conforms_turned [] [] = refl
conforms_turned [] (b ∷ v) = refl
conforms_turned (a ∷ u) [] = refl
conforms_turned (a ∷ u) (b ∷ v) =
    ap (λ t. t && conforms u (opposite v)) (between_turned a b)
    ∙ ap (λ t. is_between (neg_ℤ a) b && t) (conforms_turned u v)

pub norm-opposite : (v : Vector) → norm1 (opposite v) ≡ norm1 v
norm-opposite [] = refl
norm-opposite (a ∷ v) =
    let e : unsigned_abs (neg_ℤ a) ≡ unsigned_abs a = abs_opposite a in
    omega (arith, norm1-cons (neg_ℤ a) (opposite v), norm1-cons a v, e, norm-opposite v)

pub opposite_nonzero : (v : Vector) → is_zero v ≡ false → is_zero (opposite v) ≡ false
opposite_nonzero v h = nonzero_of_norm (opposite v) (omega (arith, norm-opposite v, norm_some v h))

-- the first nonzero entry of a vector or of its opposite is positive
pub leads_either : (v : Vector) → is_zero v ≡ false → (leads_positive v ≡ true) ⊎ (leads_positive (opposite v) ≡ true)
leads_either [] h = absurd (cc)
leads_either (pos zero ∷ v) h = leads_either v h
leads_either (pos (suc n) ∷ v) h = inl refl
leads_either (negsuc n ∷ v) h = inr refl

pub leads_other : (v w : Vector) → w ≡ opposite v → is_zero v ≡ false → leads_positive v ≡ false →
    leads_positive w ≡ true
leads_other v w e n h = elim (leads_either v n) [
  | inl k ↦ absurd (not_both (leads_positive v) k h)
  | inr k ↦ ap leads_positive e ∙ k
]

pub leads_not_both : (v : Vector) → leads_positive v ≡ true → leads_positive (opposite v) ≡ true → ⊥
leads_not_both [] h k = absurd (cc)
leads_not_both (pos zero ∷ v) h k = leads_not_both v h k
leads_not_both (pos (suc n) ∷ v) h k = absurd (cc)
leads_not_both (negsuc n ∷ v) h k = absurd (cc)

pub leads_nonzero : (v : Vector) → leads_positive v ≡ true → is_zero v ≡ false
leads_nonzero [] h = absurd (cc)
leads_nonzero (pos zero ∷ v) h = leads_nonzero v h
leads_nonzero (pos (suc n) ∷ v) h = let e : int_eq (pos (suc n)) (pos 0) ≡ false = grind (arith, nat_tests, ints) in
    ap (λ t. t && is_zero v) e
leads_nonzero (negsuc n ∷ v) h = absurd (cc)

-- ---- vectors that agree: neither has the other sign anywhere

abbrev pub agree : Vector → Vector → Bool
agree u v = all_zip agrees u v

pub agree_comm : (u v : Vector) → agree u v ≡ agree v u
agree_comm [] [] = refl
agree_comm [] (b ∷ v) = refl
agree_comm (a ∷ u) [] = refl
agree_comm (a ∷ u) (b ∷ v) = ap (λ t. t && agree u v) (agrees_comm a b) ∙ ap (λ t. agrees b a && t) (agree_comm u v)

pub agree_opposites : (u v : Vector) → agree (opposite u) (opposite v) ≡ agree u v
agree_opposites [] [] = refl
agree_opposites [] (b ∷ v) = refl
agree_opposites (a ∷ u) [] = refl
agree_opposites (a ∷ u) (b ∷ v) =
    ap (λ t. t && agree (opposite u) (opposite v)) (agrees_opposites a b)
    ∙ ap (λ t. agrees a b && t) (agree_opposites u v)

-- two parts of one vector agree
pub agree_parts : (u v y : Vector) → u ⊑ y → v ⊑ y → agree u v ≡ true
agree_parts [] [] y h k = refl
agree_parts [] (b ∷ v) [] h k = absurd (cc)
agree_parts [] (b ∷ v) (c ∷ y) h k = absurd (cc)
agree_parts (a ∷ u) v [] h k = absurd (cc)
agree_parts (a ∷ u) [] (c ∷ y) h k = absurd (cc)
agree_parts (a ∷ u) (b ∷ v) (c ∷ y) h k =
    let p = and_true (is_between a c) (conforms u y) h in
    let q = and_true (is_between b c) (conforms v y) k in
    ap (λ t. t && agree u v) (agrees_parts a b c p.0 q.0) ∙ agree_parts u v y p.1 q.1

-- a vector agrees with its opposite only where it is 0
pub agree_own_opposite : (u : Vector) → agree u (opposite u) ≡ true → norm1 u ≡ 0
agree_own_opposite [] h = refl
agree_own_opposite (a ∷ u) h =
    let p = and_true (agrees a (neg_ℤ a)) (agree u (opposite u)) h in
    omega (arith, norm1-cons a u, agrees_own_opposite a p.0, agree_own_opposite u p.1)

pub norm_agree : (u v : Vector) → agree u v ≡ true → norm1 (add u v) ≡ norm1 u + norm1 v
norm_agree [] [] h = refl
norm_agree [] (b ∷ v) h = absurd (cc)
norm_agree (a ∷ u) [] h = absurd (cc)
norm_agree (a ∷ u) (b ∷ v) h =
    let p = and_true (agrees a b) (agree u v) h in
    omega (arith, norm1-cons a u, norm1-cons b v, norm1-cons (a +ℤ b) (add u v), abs_agree a b p.0, norm_agree u v p.1)

pub below_sum : (u v : Vector) → agree u v ≡ true → u ⊑ add u v
below_sum [] [] h = refl
below_sum [] (b ∷ v) h = absurd (cc)
below_sum (a ∷ u) [] h = absurd (cc)
below_sum (a ∷ u) (b ∷ v) h =
    let p = and_true (agrees a b) (agree u v) h in
    ap (λ t. t && conforms u (add u v)) (between_sum a b p.0) ∙ below_sum u v p.1

pub norm_sum : (u v : Vector) → norm1 (add u v) ≤ norm1 u + norm1 v
norm_sum [] v = omega arith
norm_sum (a ∷ u) [] = omega arith
norm_sum (a ∷ u) (b ∷ v) = omega (
  arith,
  norm1-cons a u,
  norm1-cons b v,
  norm1-cons (a +ℤ b) (add u v),
  abs_sum a b,
  norm_sum u v,
)

-- ---- vectors in two parts

pub norm1-append : (u v : Vector) → norm1 (u ++ v) ≡ norm1 u + norm1 v
norm1-append [] v = omega arith
norm1-append (a ∷ u) v = omega (arith, norm1-cons a u, norm1-cons a (u ++ v), norm1-append u v)

pub norm-take : (n : ℕ) (v : Vector) → norm1 (take n v) ≤ norm1 v
norm-take n v = omega (arith, norm1-append (take n v) (drop n v), ap norm1 (take-append-drop n v))

-- a vector whose first entries are not all 0 is not 0
pub nonzero_by_take : (n : ℕ) (v : Vector) → is_zero (take n v) ≡ false → is_zero v ≡ false
nonzero_by_take n v h = nonzero_of_norm v (omega (arith, norm-take n v, norm_some (take n v) h))

pub leads-append : (u v : Vector) → leads_positive u ≡ true → leads_positive (u ++ v) ≡ true
leads-append [] v h = absurd (cc)
leads-append (pos zero ∷ u) v h = leads-append u v h
leads-append (pos (suc n) ∷ u) v h = refl
leads-append (negsuc n ∷ u) v h = absurd (cc)

-- ---- single entries

pub between_entries : (k : ℕ) (u v : Vector) → u ⊑ v → is_between (get_or u k (pos 0)) (get_or v k (pos 0)) ≡ true
between_entries k [] [] h = refl
between_entries k [] (b ∷ v) h = absurd (cc)
between_entries k (a ∷ u) [] h = absurd (cc)
between_entries zero (a ∷ u) (b ∷ v) h = (and_true (is_between a b) (conforms u v) h).0
between_entries (suc k) (a ∷ u) (b ∷ v) h = between_entries k u v (and_true (is_between a b) (conforms u v) h).1

pub entry-sub : (k : ℕ) (u v : Vector) → length u ≡ length v →
    get_or (sub u v) k (pos 0) ≡ get_or u k (pos 0) -ℤ get_or v k (pos 0)
entry-sub k [] [] e = refl
entry-sub k [] (b ∷ v) e = absurd (omega arith)
entry-sub k (a ∷ u) [] e = absurd (omega arith)
entry-sub zero (a ∷ u) (b ∷ v) e = refl
entry-sub (suc k) (a ∷ u) (b ∷ v) e = entry-sub k u v (omega arith)

pub entry-opposite : (k : ℕ) (v : Vector) → get_or (opposite v) k (pos 0) ≡ neg_ℤ (get_or v k (pos 0))
entry-opposite k [] = refl
entry-opposite zero (a ∷ v) = refl
entry-opposite (suc k) (a ∷ v) = entry-opposite k v

-- a vector is its entries before the last, and the last
pub last_apart : (n : ℕ) (v : Vector) → length v ≡ n + 1 → v ≡ take n v ++ get_or v n (pos 0) ∷ []
last_apart n v e =
    let low : n < length v = omega arith in
    sym (take_all (n + 1) v (omega arith)) ∙ take_more v n (pos 0) low

-- below before the last entry and at the last is below
pub conforms_by_last : (n : ℕ) (u v : Vector) → length u ≡ n + 1 → length v ≡ n + 1 → take n u ⊑ take n v →
    is_between (get_or u n (pos 0)) (get_or v n (pos 0)) ≡ true → u ⊑ v
conforms_by_last n u v e f h k =
    let one : (get_or u n (pos 0) ∷ []) ⊑ (get_or v n (pos 0) ∷ []) = ap (λ t. t && true) k in
    subst (λ w. w ⊑ v) (sym (last_apart n u e))
    (subst (λ w. (take n u ++ get_or u n (pos 0) ∷ []) ⊑ w) (sym (last_apart n v f))
    (conforms-append (take n u) (take n v) (get_or u n (pos 0) ∷ []) (get_or v n (pos 0) ∷ []) h one))

-- ---- the entries behind the first ones

-- the entries behind the first ones, of a vector below
pub conforms-drop : (n : ℕ) (u v : Vector) → u ⊑ v → drop n u ⊑ drop n v
conforms-drop zero u v h = h
conforms-drop (suc n) [] [] h = refl
conforms-drop (suc n) [] (b ∷ v) h = absurd (cc)
conforms-drop (suc n) (a ∷ u) [] h = absurd (cc)
conforms-drop (suc n) (a ∷ u) (b ∷ v) h = conforms-drop n u v (and_true (is_between a b) (conforms u v) h).1

pub opposite-drop : (n : ℕ) (v : Vector) → drop n (opposite v) ≡ opposite (drop n v)
opposite-drop zero v = refl
opposite-drop (suc n) [] = refl
opposite-drop (suc n) (a ∷ v) = opposite-drop n v

pub zero-opposite : (v : Vector) → is_zero v ≡ true → is_zero (opposite v) ≡ true
zero-opposite v none = norm_none (opposite v) (omega (arith, norm-opposite v, norm_of_zero v none))
