-- The members of a list: its head and those of its tail, what every pair of places has, what each member has and
-- passes, and the members of a mapped list and of a filtered one.
use Rattle.std.proofs.Common.{◌≡◌, ℕ, zero, suc, ◌≤◌, Bool, true, false, cond, List, ◌∷◌, ◌++◌, max, get_or, map, refl}
use Rattle.std.proofs.Common.{ap, arith, ◌∙◌, Contains, ◌⊎◌, inl, inr, subst, sym, []}
use Rattle.std.specs.List.{AllPairs, AllByRecursion, list_all, filter, list_any}
use Rattle.std.proofs.lemmas.Bool.{cases_order, and_from, or_left, or_right, or_cases}
use Rattle.std.proofs.lemmas.List.{get_or_read}
use Rattle.lattice_theory.specs.Lists.{greatest}
use Rattle.lattice_theory.specs.Vectors.{Vector, same, is_listed}
use Rattle.lattice_laws.proofs.Tests.{and_true, not_both, same_true, same_refl}

module _ {X : Type 0} where
  -- a member of a list is its head or a member of its tail
  pub contains_cases : (x : X) (xs : List X) (z : X) → Contains (x ∷ xs) z → (x ≡ z) ⊎ Contains xs z
  contains_cases x xs z (zero, low, e) = inl e
  contains_cases x xs z (suc k, low, e) = inr (k, omega arith, e)

  pub contains_head : (x : X) (xs : List X) → Contains (x ∷ xs) x
  contains_head x xs = (0, omega arith, refl)

  pub contains_tail : (x : X) (xs : List X) (z : X) → Contains xs z → Contains (x ∷ xs) z
  contains_tail x xs z (k, low, e) = (suc k, omega arith, e)

  -- of two members one is the other, or one stands before the other
  pub pair_cases : (R : X → X → Type 0) (xs : List X) (a b : X) → AllPairs R xs → Contains xs a → Contains xs b →
      (a ≡ b) ⊎ (R a b ⊎ R b a)
  pair_cases R xs a b h (i, low, e) (j, lower, f) = elim (cases_order i j) [
    | inl same ↦ inl (sym e ∙ (λ k. get_or xs (same k) a) ∙ sym (get_or_read xs j b lower (sym f) a))
    | inr (inl before) ↦
        inr (inl (subst (λ x. R x b) e
        (subst (λ y. R (get_or xs i a) y) (sym (get_or_read xs j b lower (sym f) a)) (h i j a before lower))))
    | inr (inr behind) ↦
        inr (inr (subst (λ y. R b y) e
        (subst (λ x. R x (get_or xs i a)) (sym (get_or_read xs j b lower (sym f) a)) (h j i a behind low))))
  ]

-- ---- what holds of each member

pub each_has : (P Q : Vector → Type 0) → ((v : Vector) → P v → Q v) → (vs : List Vector) → AllByRecursion P vs →
    AllByRecursion Q vs
each_has P Q says [] all = tt
each_has P Q says (v ∷ vs) all = (says v all.0, each_has P Q says vs all.1)

-- what holds of each member
pub each_member : (P : Vector → Type 0) (vs : List Vector) → ((v : Vector) → Contains vs v → P v) → AllByRecursion P vs
each_member P [] says = tt
each_member P (v ∷ vs) says =
    (says v (contains_head v vs), each_member P vs (λ w c. says w (contains_tail v vs w c)))

-- ---- tests of each member

-- a test that all pass
pub list_all_at : {X : Type 0} (test : X → Bool) (xs : List X) (x : X) → list_all test xs ≡ true → Contains xs x →
    test x ≡ true
list_all_at test [] x passes (k, low, e) = absurd (omega arith)
list_all_at test (y ∷ xs) x passes c =
    let p = and_true (test y) (list_all test xs) passes in
    elim (contains_cases y xs x c) [ inl e ↦ subst (λ v. test v ≡ true) e p.0 | inr d ↦ list_all_at test xs x p.1 d ]

pub list_all_of : {X : Type 0} (test : X → Bool) (xs : List X) → ((x : X) → Contains xs x → test x ≡ true) →
    list_all test xs ≡ true
list_all_of test [] passes = refl
list_all_of test (x ∷ xs) passes =
    and_from (test x) (list_all test xs) (passes x (contains_head x xs))
    (list_all_of test xs (λ y c. passes y (contains_tail x xs y c)))

module _ {X : Type 0} (test : X → Bool) where
  -- a test that some member passes
  pub list_any_of : (xs : List X) (x : X) → Contains xs x → test x ≡ true → list_any test xs ≡ true
  list_any_of [] x (k, low, e) passes = absurd (omega arith)
  list_any_of (y ∷ xs) x c passes = elim (contains_cases y xs x c) [
    | inl same ↦ or_left (test y) (list_any test xs) (ap test same ∙ passes)
    | inr d ↦ or_right (test y) (list_any test xs) (list_any_of xs x d passes)
  ]

  pub list_any_gives : (xs : List X) → list_any test xs ≡ true → (x : X) × Contains xs x × (test x ≡ true)
  list_any_gives [] any = absurd (cc)
  list_any_gives (x ∷ xs) any = elim (or_cases (test x) (list_any test xs) any) [
    | inl here ↦ (x, contains_head x xs, here)
    | inr behind ↦ let r = list_any_gives xs behind in (r.0, contains_tail x xs r.0 r.1, r.2)
  ]

-- a listed vector is a member
pub listed_member : (vs : List Vector) (v : Vector) → is_listed vs v ≡ true → Contains vs v
listed_member vs v listed =
    let r = list_any_gives (λ u. same u v) vs listed in
    subst (Contains vs) (same_true r.0 v r.2) r.1

pub member_listed : (vs : List Vector) (v : Vector) → Contains vs v → is_listed vs v ≡ true
member_listed vs v c = list_any_of (λ u. same u v) vs v c (same_refl v)

-- ---- members of a mapped list and of a filtered one

-- the value of a member is a value
pub mapped : {X Y : Type 0} (f : X → Y) (xs : List X) (x : X) → Contains xs x → Contains (map f xs) (f x)
mapped f [] x (k, low, e) = absurd (omega arith)
mapped f (y ∷ xs) x c = elim (contains_cases y xs x c) [
  | inl e ↦ subst (λ z. Contains (map f (y ∷ xs)) (f z)) e (contains_head (f y) (map f xs))
  | inr d ↦ contains_tail (f y) (map f xs) (f x) (mapped f xs x d)
]

-- each value is that of a member
pub mapped_from : {X Y : Type 0} (f : X → Y) (xs : List X) (y : Y) → Contains (map f xs) y →
    (x : X) × Contains xs x × (f x ≡ y)
mapped_from f [] y (k, low, e) = absurd (omega arith)
mapped_from f (x ∷ xs) y c = elim (contains_cases (f x) (map f xs) y c) [
  | inl e ↦ (x, contains_head x xs, e)
  | inr d ↦ let r = mapped_from f xs y d in (r.0, contains_tail x xs r.0 r.1, r.2)
]

-- a member that passes is kept
pub filtered : {X : Type 0} (test : X → Bool) (xs : List X) (x : X) → Contains xs x → test x ≡ true →
    Contains (filter test xs) x
filtered test [] x (k, low, e) pass = absurd (omega arith)
filtered test (y ∷ xs) x c pass = by (test y) refl (contains_cases y xs x c) (λ d. filtered test xs x d pass)
  where
    by : (b : Bool) → test y ≡ b → (y ≡ x) ⊎ Contains xs x → (Contains xs x → Contains (filter test xs) x) →
        Contains (cond b (y ∷ filter test xs) (filter test xs)) x
    by true p (inl e) further = subst (Contains (y ∷ filter test xs)) e (contains_head y (filter test xs))
    by true p (inr d) further = contains_tail y (filter test xs) x (further d)
    by false p (inl e) further = absurd (not_both (test x) pass (ap test (sym e) ∙ p))
    by false p (inr d) further = further d

-- what is kept is a member that passes
pub filtered_from : {X : Type 0} (test : X → Bool) (xs : List X) (x : X) → Contains (filter test xs) x →
    Contains xs x × (test x ≡ true)
filtered_from test [] x (k, low, e) = absurd (omega arith)
filtered_from test (y ∷ xs) x c = by (test y) refl c (λ d. filtered_from test xs x d)
  where
    by : (b : Bool) → test y ≡ b → Contains (cond b (y ∷ filter test xs) (filter test xs)) x →
        (Contains (filter test xs) x → Contains xs x × (test x ≡ true)) → Contains (y ∷ xs) x × (test x ≡ true)
    by true p d further = elim (contains_cases y (filter test xs) x d) [
      | inl e ↦ (subst (Contains (y ∷ xs)) e (contains_head y xs), ap test (sym e) ∙ p)
      | inr i ↦ let r = further i in (contains_tail y xs x r.0, r.1)
    ]
    by false p d further = let r = further d in (contains_tail y xs x r.0, r.1)

-- the value of a member is at most the greatest one
pub at_most_greatest : {X : Type 0} (f : X → ℕ) (xs : List X) (x : X) → Contains xs x → f x ≤ greatest (map f xs)
at_most_greatest f [] x (k, low, e) = absurd (omega arith)
at_most_greatest f (y ∷ xs) x c = elim (contains_cases y xs x c) [
  | inl e ↦ omega (arith, ap f e)
  | inr d ↦ omega (arith, at_most_greatest f xs x d)
]

pub greatest-append : (xs ys : List ℕ) → greatest (xs ++ ys) ≡ max (greatest xs) (greatest ys)
greatest-append [] ys = omega arith
greatest-append (x ∷ xs) ys = omega (arith, greatest-append xs ys)
