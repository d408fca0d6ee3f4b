-- Laws of the clashes of two rows, entry by entry and row by row.
use Rattle.std.proofs.Common.{◌≡◌, ℕ, zero, suc, ◌+◌, ◌<◌, ◌≤◌, pos, ◌+ℤ◌, nat_lt, Bool, true, false, ◌&&◌, ◌||◌, List}
use Rattle.std.proofs.Common.{[], ◌∷◌, ◌++◌, length, take, drop, get_or, refl, ap, arith, sym, ◌∙◌, Option, Some, None}
use Rattle.std.proofs.Common.{slice_get, length-take}
use Rattle.std.specs.List.{list_all, list_any}
use Rattle.std.proofs.lemmas.Bool.Decides.{nat_tests}
use Rattle.std.proofs.lemmas.List.{drop_all, take_all, take-take}
use Rattle.lattice_theory.specs.Vectors.{Vector, conforms, add, opposite}
use Rattle.lattice_laws.proofs.Tests.{and_true, and-interchange}
use Rattle.lattice_laws.proofs.Signs.{agrees}
use Rattle.lattice_laws.proofs.Conformal.{agree, opposite-take}
use Rattle.lattice_laws.proofs.Places.{drop-at}
use Rattle.criterion_laws.specs.Prefixes.{first_clash, is_below_in, clash_settles, pair_settles, clashes_settle}
use Rattle.criterion_laws.proofs.Turned.{settles_turned}

-- ---- entry by entry

-- one entry more in which they agree
agree-suc : (f g : Vector) (at : ℕ) → at < length f → at < length g → agree (take at f) (take at g) ≡ true →
    agrees (get_or f at (pos 0)) (get_or g at (pos 0)) ≡ true → agree (take (suc at) f) (take (suc at) g) ≡ true
agree-suc [] g at low low_too before here = absurd (omega arith)
agree-suc (a ∷ f) [] at low low_too before here = absurd (omega arith)
agree-suc (a ∷ f) (b ∷ g) zero low low_too before here = ap (λ t. t && true) here
agree-suc (a ∷ f) (b ∷ g) (suc at) low low_too before here =
    let parts = and_true (agrees a b) (agree (take at f) (take at g)) before in
    ap (λ t. t && agree (take (suc at) f) (take (suc at) g)) parts.0
    ∙ agree-suc f g at (omega arith) (omega arith) parts.1 here

pub agree-more : (f g : Vector) (at : ℕ) → at < length f → at < length g → agree (take at f) (take at g) ≡ true →
    agrees (get_or f at (pos 0)) (get_or g at (pos 0)) ≡ true → agree (take (at + 1) f) (take (at + 1) g) ≡ true
agree-more f g at low low_too before here =
    let next : at + 1 ≡ suc at = omega arith in
    (λ i. agree (take (next i) f) (take (next i) g)) ∙ agree-suc f g at low low_too before here

-- one entry more of the sum
sum-suc : (f g : Vector) (at : ℕ) → at < length f → at < length g →
    take (suc at) (add f g) ≡ take at (add f g) ++ (get_or f at (pos 0) +ℤ get_or g at (pos 0)) ∷ []
sum-suc [] g at low low_too = absurd (omega arith)
sum-suc (a ∷ f) [] at low low_too = absurd (omega arith)
sum-suc (a ∷ f) (b ∷ g) zero low low_too = refl
sum-suc (a ∷ f) (b ∷ g) (suc at) low low_too =
    ap (λ t. (a +ℤ b) ∷ t) (sum-suc f g at (omega arith) (omega arith))

pub sum-more : (f g : Vector) (at : ℕ) → at < length f → at < length g →
    take (at + 1) (add f g) ≡ take at (add f g) ++ (get_or f at (pos 0) +ℤ get_or g at (pos 0)) ∷ []
sum-more f g at low low_too =
    let next : at + 1 ≡ suc at = omega arith in ap (λ n. take n (add f g)) next ∙ sum-suc f g at low low_too

pub length-sum : (f g : Vector) → length f ≡ length g → length (add f g) ≡ length f
length-sum [] g same = refl
length-sum (a ∷ f) [] same = absurd (omega arith)
length-sum (a ∷ f) (b ∷ g) same = ap suc (length-sum f g (omega arith))

-- ---- prefixes

-- a row is compared by its first entries
pub prefix-test : (z row : Vector) →
    is_below_in (length z) z row
    ≡ (conforms (take (length z) row) z || conforms (opposite (take (length z) row)) z)
prefix-test z row =
    (λ i. conforms (take (length z) row) (all i) || conforms (turned i) (all i))
  where
    all : take (length z) z ≡ z
    all = take_all (length z) z (omega arith)

    turned : take (length z) (opposite row) ≡ opposite (take (length z) row)
    turned = sym (opposite-take (length z) row)

-- the first entries of z decide as z does
pub prefix-any : (n : ℕ) (z : Vector) (rows : List Vector) → n ≤ length z →
    list_any (is_below_in (length (take n z)) (take n z)) rows ≡ list_any (is_below_in n z) rows
prefix-any n z rows low = ap (λ k. list_any (is_below_in k (take n z)) rows) size ∙ over rows
  where
    size : length (take n z) ≡ n
    size = simp length-take (omega arith)

    same : take n (take n z) ≡ take n z
    same = take-take n n z (omega arith)

    over : (vs : List Vector) → list_any (is_below_in n (take n z)) vs ≡ list_any (is_below_in n z) vs
    over [] = refl
    over (v ∷ vs) = (λ i. (conforms (take n v) (same i) || conforms (take n (opposite v)) (same i)) || over vs i)

-- ---- whether a clash is settled

module _ (cols : ℕ) (basis : List Vector) (f g : Vector) where
  settled : Option ℕ → Bool
  settled None = true
  settled (Some at) = nat_lt at cols || list_any (is_below_in (suc at) (add f g)) basis

  pub settles-none : first_clash f g ≡ None → clash_settles cols basis f g ≡ true
  unfolding settled
  settles-none none = ap settled none

  pub settles-first : (at : ℕ) → first_clash f g ≡ Some at → at < cols → clash_settles cols basis f g ≡ true
  unfolding settled
  settles-first at first low =
      let less : nat_lt at cols ≡ true = grind (arith, nat_tests) in
      ap settled first ∙ ap (λ t. t || list_any (is_below_in (suc at) (add f g)) basis) less

  pub settles-behind : (at : ℕ) → first_clash f g ≡ Some at → cols ≤ at →
      clash_settles cols basis f g ≡ list_any (is_below_in (at + 1) (add f g)) basis
  unfolding settled
  settles-behind at first past =
      let none : nat_lt at cols ≡ false = grind (arith, nat_tests) in
      let next : suc at ≡ at + 1 = omega arith in
      ap settled first ∙ ap (λ t. t || list_any (is_below_in (suc at) (add f g)) basis) none
      ∙ ap (λ n. list_any (is_below_in n (add f g)) basis) next

-- ---- row by row

list_all-and : {A : Type 0} (p q : A → Bool) (xs : List A) →
    list_all (λ a. p a && q a) xs ≡ (list_all p xs && list_all q xs)
list_all-and p q [] = refl
list_all-and p q (x ∷ xs) =
    ap (λ t. (p x && q x) && t) (list_all-and p q xs) ∙ and-interchange (p x) (q x) (list_all p xs) (list_all q xs)

-- each pair, with both signs of the first one
pub pairs-signs : (cols : ℕ) (basis : List Vector) (f : Vector) (gs : List Vector) →
    list_all (pair_settles cols basis f) gs
    ≡ (list_all (clash_settles cols basis f) gs && list_all (clash_settles cols basis (opposite f)) gs)
pairs-signs cols basis f gs =
    over gs ∙ list_all-and (clash_settles cols basis f) (clash_settles cols basis (opposite f)) gs
  where
    over : (vs : List Vector) →
        list_all (pair_settles cols basis f) vs
        ≡ list_all (λ g. clash_settles cols basis f g && clash_settles cols basis (opposite f) g) vs
    over [] = refl
    over (v ∷ vs) = (λ i. (clash_settles cols basis f v && settles_turned cols basis f v i) && over vs i)

pub clashes-at : (cols : ℕ) (basis rows : List Vector) (i : ℕ) (f : Vector) (b : Bool) → slice_get rows i ≡ Some f →
    list_all (pair_settles cols basis f) (drop (i + 1) rows) ≡ b →
    clashes_settle cols basis (drop i rows) ≡ (b && clashes_settle cols basis (drop (i + 1) rows))
clashes-at cols basis rows i f b there is =
    ap (clashes_settle cols basis) (drop-at rows i f there)
    ∙ ap (λ t. t && clashes_settle cols basis (drop (i + 1) rows)) is

pub clashes-end : (cols : ℕ) (basis rows : List Vector) (i : ℕ) → length rows ≤ i →
    clashes_settle cols basis (drop i rows) ≡ true
clashes-end cols basis rows i past = ap (clashes_settle cols basis) (drop_all i rows past)
