-- Rising lists: determined by their members, no longer than a rising list that has all their members,
-- and made of any list of different vectors.
use Rattle.std.proofs.Common.{◌≡◌, ◌≢◌, ℕ, zero, suc, ◌<◌, ◌≤◌, true, false, ◌&&◌, List, [], ◌∷◌, length, refl, ap}
use Rattle.std.proofs.Common.{arith, sym, ◌∙◌, IsTrue, Contains, ◌⊎◌, inl, inr, subst, add-one, get_or, Some, slice_get}
use Rattle.std.specs.List.{AllPairs, swap}
use Rattle.std.specs.List.Sorted.{IsSorted, IsPermutation}
use Rattle.std.proofs.lemmas.List.Sorted.{IsPermutation-keeps}
use Rattle.std.proofs.lemmas.List.Edits.{swapped_from_swap, length-swap}
use Rattle.std.proofs.lemmas.Bool.{cases_eq, cases_order}
use Rattle.std.specs.Ordering.{is_lt, is_eq, int_cmp, ordering_reverse}
use Rattle.std.specs.Cmp.{IsTotalOrder, int_cmp_total}
use Rattle.std.specs.Cmp.Lexicographic.{lists_total, lists_ties}
use Rattle.std.specs.declared.cmp.Ordering.{Ordering}
use Rattle.std.specs.declared.cmp.Ordering.TheVariants.{Less, Equal, Greater}
use Rattle.std.proofs.lemmas.Cmp.{tied_itself}
use Rattle.lattice_theory.specs.Vectors.{Vector, lex_cmp, lex_less, is_rising}
use Rattle.lattice_laws.proofs.Tests.{and_true, true_or_false, same_true}
use Rattle.lattice_laws.proofs.Members.{contains_cases, contains_head, contains_tail}
use Rattle.lattice_laws.proofs.Places.{contains_at}

different_tail : (v : Vector) (vs : List Vector) → AllPairs (λ u w. u ≢ w) (v ∷ vs) → AllPairs (λ u w. u ≢ w) vs
different_tail v vs h = λ i j d before low. h (suc i) (suc j) d (omega arith) (omega arith)

different_head : (v : Vector) (vs : List Vector) → AllPairs (λ u w. u ≢ w) (v ∷ vs) → Contains vs v → ⊥
different_head v vs h (k, low, e) = h 0 (suc k) v (omega arith) (omega arith) (sym e)

pub lex_total : IsTotalOrder lex_cmp
lex_total = lists_total int_cmp_total

pub lex_same : (v : Vector) → lex_cmp v v ≡ Equal
lex_same v = tied_itself lex_total v

pub lex_less_trans : (u v w : Vector) → lex_less u v ≡ true → lex_less v w ≡ true → lex_less u w ≡ true
lex_less_trans u v w h k = ap is_lt (lex_total.trans u v w (less _ h) (less _ k))
  where
    less : (o : Ordering) → is_lt o ≡ true → o ≡ Less
    less Less e = refl
    less Equal e = absurd (cc)
    less Greater e = absurd (cc)

pub lex_less_irrefl : (u : Vector) → lex_less u u ≡ true → ⊥
lex_less_irrefl u h = let e : lex_cmp u u ≡ Equal = tied_itself lex_total u in absurd (cc (ap is_lt e))

pub rising_tail : (x : Vector) (xs : List Vector) → is_rising (x ∷ xs) ≡ true → is_rising xs ≡ true
rising_tail x [] h = refl
rising_tail x (y ∷ ys) h = (and_true (lex_less x y) _ h).1

pub rising_above : (x : Vector) (xs : List Vector) (z : Vector) → is_rising (x ∷ xs) ≡ true → Contains xs z →
    lex_less x z ≡ true
rising_above x [] z h (k, low, e) = absurd (omega arith)
rising_above x (y ∷ ys) z h m =
    let p = and_true (lex_less x y) _ h in
    elim (contains_cases y ys z m) [
      | inl e ↦ subst (λ v. lex_less x v ≡ true) e p.0
      | inr n ↦ lex_less_trans x y z p.0 (rising_above y ys z p.1 n)
    ]

-- earlier members are less
pub rising_places : (vs : List Vector) (i j : ℕ) (u v : Vector) → is_rising vs ≡ true → i < j →
    slice_get vs i ≡ Some u → slice_get vs j ≡ Some v → lex_less u v ≡ true
rising_places [] i j u v rising before here there = absurd (cc)
rising_places (x ∷ vs) i zero u v rising before here there = absurd (omega arith)
rising_places (x ∷ vs) zero (suc j) u v rising before here there =
    let same : x ≡ u = cc in
    subst (λ w. lex_less w v ≡ true) same (rising_above x vs v rising (contains_at vs j v there))
rising_places (x ∷ vs) (suc i) (suc j) u v rising before here there =
    rising_places vs i j u v (rising_tail x vs rising) (omega arith) here there

-- no vector stands at two places
pub stands_once : (vs : List Vector) (i j : ℕ) (v : Vector) → is_rising vs ≡ true → i < j → slice_get vs i ≡ Some v →
    slice_get vs j ≡ Some v → ⊥
stands_once vs i j v rising before here there = lex_less_irrefl v (rising_places vs i j v v rising before here there)

-- a member that is not the head is a member of the tail
other_member : (x : Vector) (xs : List Vector) (z : Vector) → Contains (x ∷ xs) z → (x ≡ z → ⊥) → Contains xs z
other_member x xs z m ne = elim (contains_cases x xs z m) [ inl e ↦ absurd (ne e) | inr n ↦ n ]

-- the head of a rising list is not in its tail
head_apart : (x : Vector) (xs : List Vector) (y z : Vector) → is_rising (x ∷ xs) ≡ true → Contains xs z → y ≡ x →
    y ≡ z → ⊥
head_apart x xs y z h m e f = lex_less_irrefl z (subst (λ v. lex_less v z ≡ true) (sym e ∙ f) (rising_above x xs z h m))

-- two rising lists with the same members are one list
pub rising_unique : (xs ys : List Vector) → is_rising xs ≡ true → is_rising ys ≡ true →
    ((z : Vector) → Contains xs z → Contains ys z) → ((z : Vector) → Contains ys z → Contains xs z) → xs ≡ ys
rising_unique [] [] h k to from = refl
rising_unique [] (y ∷ ys) h k to from = absurd (omega (arith, (from y (contains_head y ys)).1))
rising_unique (x ∷ xs) [] h k to from = absurd (omega (arith, (to x (contains_head x xs)).1))
rising_unique (x ∷ xs) (y ∷ ys) h k to from =
    let same : x ≡ y = same_heads (contains_cases y ys x (to x (contains_head x xs)))
    (contains_cases x xs y (from y (contains_head y ys))) in
    let rest : xs ≡ ys = rising_unique xs ys (rising_tail x xs h) (rising_tail y ys k)
    (λ z m. other_member y ys z (to z (contains_tail x xs z m)) (λ e. head_apart x xs y z h m (sym same) e))
    (λ z m. other_member x xs z (from z (contains_tail y ys z m)) (λ e. head_apart y ys x z k m same e)) in
    cc
  where
    same_heads : (y ≡ x) ⊎ Contains ys x → (x ≡ y) ⊎ Contains xs y → x ≡ y
    same_heads (inl e) m = sym e
    same_heads (inr n) (inl e) = e
    same_heads (inr n) (inr m) =
        absurd (lex_less_irrefl x (lex_less_trans x y x (rising_above x xs y h m) (rising_above y ys x k n)))

-- a rising list whose members all stand in a rising list is no longer
pub rising_length : (xs ys : List Vector) → is_rising xs ≡ true → is_rising ys ≡ true →
    ((z : Vector) → Contains xs z → Contains ys z) → length xs ≤ length ys
rising_length [] ys h k to = omega arith
rising_length (x ∷ xs) [] h k to = absurd (omega (arith, (to x (contains_head x xs)).1))
rising_length (x ∷ xs) (y ∷ ys) h k to = elim (contains_cases y ys x (to x (contains_head x xs))) [
  | inl e ↦
      omega (
        arith,
        rising_length xs ys (rising_tail x xs h) (rising_tail y ys k)
            (λ z m. other_member y ys z (to z (contains_tail x xs z m)) (λ f. head_apart x xs y z h m e f)),
      )
  | inr n ↦
      omega (
        arith,
        rising_length (x ∷ xs) ys h (rising_tail y ys k)
            (λ z m. other_member y ys z (to z m) (λ f. lex_less_irrefl z
            (subst (λ v. lex_less v z ≡ true) f (behind z (contains_cases x xs z m) n)))),
      )
]
  where
    behind : (z : Vector) → (x ≡ z) ⊎ Contains xs z → Contains ys x → lex_less y z ≡ true
    behind z (inl e) n = subst (λ v. lex_less y v ≡ true) e (rising_above y ys x k n)
    behind z (inr m) n = lex_less_trans y x z (rising_above y ys x k n) (rising_above x xs z h m)

-- ---- rising lists of different vectors

-- each two places hold different vectors
abbrev pub AreDifferent : List Vector → Type 0
AreDifferent vs = AllPairs (λ u v. u ≢ v) vs

-- vectors that the order does not tell apart are equal
pub lex_equal : (u v : Vector) → lex_cmp u v ≡ Equal → u ≡ v
lex_equal u v e = same_true u v (lists_ties int_cmp (λ x y. refl) u v ∙ ap is_eq e)

-- of two different vectors one is less than the other
lex_less_other : (u v : Vector) → u ≢ v → lex_less u v ≡ false → lex_less v u ≡ true
lex_less_other u v other h = by (lex_cmp u v) refl
  where
    by : (o : Ordering) → lex_cmp u v ≡ o → lex_less v u ≡ true
    by Less e = absurd (cc (ap is_lt e))
    by Equal e = absurd (other (lex_equal u v e))
    by Greater e = ap is_lt (lex_total.antisymm v u ∙ ap ordering_reverse e)

-- a vector that is less than each member stands before them
rising_cons : (x : Vector) (xs : List Vector) → is_rising xs ≡ true →
    ((z : Vector) → Contains xs z → lex_less x z ≡ true) → is_rising (x ∷ xs) ≡ true
rising_cons x [] h low = refl
rising_cons x (y ∷ ys) h low = ap (λ t. t && is_rising (y ∷ ys)) (low y (contains_head y ys)) ∙ h

-- a rising list of the members and one more
record Inserted (x : Vector) (xs : List Vector) : Type 0 where
  pub all : List Vector
  pub rising : is_rising all ≡ true
  pub size : length all ≡ suc (length xs)
  pub members : (z : Vector) → Contains all z → (x ≡ z) ⊎ Contains xs z

inserted : (x : Vector) (xs : List Vector) → is_rising xs ≡ true → (Contains xs x → ⊥) → Inserted x xs
inserted x [] h new = record { all = x ∷ []; rising = refl; size = refl; members = λ z c. contains_cases x [] z c }
inserted x (y ∷ ys) h new = elim (true_or_false (lex_less x y)) [
  | inl low ↦ record {
    all = x ∷ y ∷ ys;
    rising = ap (λ t. t && is_rising (y ∷ ys)) low ∙ h;
    size = refl;
    members = λ z c. contains_cases x (y ∷ ys) z c;
  }
  | inr high ↦
      let rest = inserted x ys (rising_tail y ys h) (λ c. new (contains_tail y ys x c)) in
      record {
        all = y ∷ rest.all;
        rising = rising_cons y rest.all rest.rising (λ z c. above rest.all z high (rest.members z c));
        size = ap suc rest.size;
        members = λ z c. sorted_out rest.all z (contains_cases y rest.all z c) rest.members;
      }
]
  where
    above : (all : List Vector) (z : Vector) → lex_less x y ≡ false → (x ≡ z) ⊎ Contains ys z → lex_less y z ≡ true
    above all z high (inl e) =
        subst (λ v. lex_less y v ≡ true) e (lex_less_other x y
        (λ f. new (subst (Contains (y ∷ ys)) (sym f) (contains_head y ys))) high)
    above all z high (inr c) = rising_above y ys z h c

    sorted_out : (all : List Vector) (z : Vector) → (y ≡ z) ⊎ Contains all z →
        ((w : Vector) → Contains all w → (x ≡ w) ⊎ Contains ys w) → (x ≡ z) ⊎ Contains (y ∷ ys) z
    sorted_out all z (inl e) members = inr (subst (Contains (y ∷ ys)) e (contains_head y ys))
    sorted_out all z (inr c) members = elim (members z c) [ inl e ↦ inl e | inr d ↦ inr (contains_tail y ys z d) ]

-- different vectors in a rising list
pub record Arranged (vs : List Vector) : Type 0 where
  pub all : List Vector
  pub rising : IsTrue (is_rising all)
  pub size : length all ≡ length vs
  pub members : (z : Vector) → Contains all z → Contains vs z

pub arranged : (vs : List Vector) → AreDifferent vs → Arranged vs
arranged [] h = record { all = []; rising = refl; size = refl; members = λ z c. c }
arranged (v ∷ vs) h =
    let rest = arranged vs (different_tail v vs h) in
    let more = inserted v rest.all rest.rising (λ c. different_head v vs h (rest.members v c)) in
    record {
      all = more.all;
      rising = more.rising;
      size = omega (arith, more.size, rest.size);
      members = λ z c. either rest.all z rest.members (more.members z c);
    }
  where
    either : (all : List Vector) (z : Vector) → ((w : Vector) → Contains all w → Contains vs w) →
        (v ≡ z) ⊎ Contains all z → Contains (v ∷ vs) z
    either all z m (inl e) = subst (Contains (v ∷ vs)) e (contains_head v vs)
    either all z m (inr c) = contains_tail v vs z (m z c)

-- a sorted list of different vectors is rising
pub rising_from_sorted : (vs : List Vector) → IsSorted lex_cmp vs → AreDifferent vs → IsTrue (is_rising vs)
rising_from_sorted [] s h = refl
rising_from_sorted (u ∷ []) s h = refl
rising_from_sorted (u ∷ v ∷ vs) s h =
    ap (λ t. t && is_rising (v ∷ vs)) (lex_less_other v u (λ e. h 0 1 u (omega arith) (omega arith) (sym e))
    (s 0 u (omega arith) (omega arith)))
    ∙ rising_from_sorted (v ∷ vs) (λ k d low high. let next = s (suc k) d (omega arith) (omega arith) in
    simp add-one (simp add-one at next)) (different_tail u (v ∷ vs) h)

-- equal vectors stand at one place
known_place : (vs : List Vector) → AreDifferent vs → (s t : ℕ) (d : Vector) → s < length vs → t < length vs →
    get_or vs s d ≡ get_or vs t d → s ≡ t
known_place vs h s t d low lower e = elim (cases_order s t) [
  | inl same ↦ same
  | inr (inl before) ↦ absurd (h s t d before lower e)
  | inr (inr behind) ↦ absurd (h t s d behind low (sym e))
]

-- the place t whose vector an exchange of i and j moved to k
data WasAt (i j k t : ℕ) : Type 0 where
  first : k ≡ i → t ≡ j → WasAt i j k t
  second : k ≢ i → k ≡ j → t ≡ i → WasAt i j k t
  other : k ≢ i → k ≢ j → t ≡ k → WasAt i j k t

one_place : (i j a b t : ℕ) → WasAt i j a t → WasAt i j b t → a ≡ b
one_place i j a b t (first p q) (first r s) = omega arith
one_place i j a b t (first p q) (second r s u) = omega arith
one_place i j a b t (first p q) (other r s u) = absurd (s (sym u ∙ q))
one_place i j a b t (second n p q) (first r s) = omega arith
one_place i j a b t (second n p q) (second r s u) = omega arith
one_place i j a b t (second n p q) (other r s u) = absurd (r (sym u ∙ q))
one_place i j a b t (other n p q) (first r s) = absurd (p (sym q ∙ s))
one_place i j a b t (other n p q) (second r s u) = absurd (n (sym q ∙ u))
one_place i j a b t (other n p q) (other r s u) = sym q ∙ u

record Moved (vs : List Vector) (i j k : ℕ) (d : Vector) : Type 0 where
  pub place : ℕ
  pub low : place < length vs
  pub is : get_or (swap vs i j) k d ≡ get_or vs place d
  pub was : WasAt i j k place

moved : (vs : List Vector) (i j k : ℕ) (d : Vector) → i < length vs → j < length vs → k < length vs → Moved vs i j k d
moved vs i j k d low lower at =
    let s = swapped_from_swap vs (swap vs i j) i j d low lower refl in
    elim (cases_eq k i) [
      | inl e ↦ record { place = j; low = lower; is = ap (λ n. get_or (swap vs i j) n d) e ∙ s.0; was = first e refl }
      | inr n ↦ elim (cases_eq k j) [
        | inl e ↦ record {
          place = i;
          low = low;
          is = ap (λ m. get_or (swap vs i j) m d) e ∙ s.1;
          was = second n e refl;
        }
        | inr m ↦ record { place = k; low = at; is = s.2 k n m; was = other n m refl }
      ]
    ]

-- the same vectors in another order are different too
pub different_permutation : (us vs : List Vector) → IsPermutation us vs → AreDifferent us → AreDifferent vs
different_permutation us vs p h = IsPermutation-keeps us AreDifferent h exchanged vs p
  where
    exchanged : (l : List Vector) (i j : ℕ) → i < length l → j < length l → AreDifferent l → AreDifferent (swap l i j)
    exchanged l i j low lower g a b d before at e =
        let size : length (swap l i j) ≡ length l = length-swap l i j in
        let m = moved l i j a d low lower (omega (arith, size, before, at)) in
        let n = moved l i j b d low lower (omega (arith, size, at)) in
        let same : m.place ≡ n.place = known_place l g m.place n.place d m.low n.low (sym m.is ∙ e ∙ n.is) in
        let both : a ≡ b = one_place i j a b n.place (subst (λ t. WasAt i j a t) same m.was) n.was in
        absurd (omega (arith, before, both))
