-- Laws of a test of each element of a list, element by element.
use Rattle.std.proofs.Common.{◌≡◌, ℕ, zero, suc, ◌+◌, ◌-◌, ◌<◌, ◌≤◌, pos, Bool, true, false, ◌&&◌, ◌||◌, List, [], ◌∷◌}
use Rattle.std.proofs.Common.{length, map, drop, get_or, refl, ap, arith, sym, ◌∙◌, Some, slice_get}
use Rattle.std.specs.List.{list_all, list_any}
use Rattle.std.specs.Ordering.{int_eq}
use Rattle.lattice_theory.specs.Lists.{numbers_from}
use Rattle.lattice_theory.specs.Vectors.{Vector, same, lex_less, is_rising, dot}
use Rattle.std.proofs.lemmas.List.{drop_all}
use Rattle.lattice_laws.proofs.Places.{drop-at, drop-entry}

-- one place has one element
pub same_row : {A : Type 0} (xs : List A) (i : ℕ) (x y : A) → slice_get xs i ≡ Some x → slice_get xs i ≡ Some y → x ≡ y
same_row xs i x y h k = cc

-- ---- all elements from a place on

module _ {A : Type 0} (test : A → Bool) where
  pub list_all-at : (xs : List A) (i : ℕ) (x : A) (b : Bool) → slice_get xs i ≡ Some x → test x ≡ b →
      list_all test (drop i xs) ≡ (b && list_all test (drop (i + 1) xs))
  list_all-at xs i x b there is = ap (list_all test) (drop-at xs i x there)
      ∙ ap (λ t. t && list_all test (drop (i + 1) xs)) is

  pub list_all-end : (xs : List A) (i : ℕ) → length xs ≤ i → list_all test (drop i xs) ≡ true
  list_all-end xs i past = ap (list_all test) (drop_all i xs past)

  -- some element from a place on
  pub list_any-at : (xs : List A) (i : ℕ) (x : A) (b : Bool) → slice_get xs i ≡ Some x → test x ≡ b →
      list_any test (drop i xs) ≡ (b || list_any test (drop (i + 1) xs))
  list_any-at xs i x b there is = ap (list_any test) (drop-at xs i x there)
      ∙ ap (λ t. t || list_any test (drop (i + 1) xs)) is

  pub list_any-end : (xs : List A) (i : ℕ) → length xs ≤ i → list_any test (drop i xs) ≡ false
  list_any-end xs i past = ap (list_any test) (drop_all i xs past)

-- ---- all numbers from one on

pub list_all-numbers : (test : ℕ → Bool) (j n : ℕ) (b : Bool) → j < n → test j ≡ b →
    list_all test (numbers_from j (n - j)) ≡ (b && list_all test (numbers_from (j + 1) (n - (j + 1))))
list_all-numbers test j n b low is =
    let some : n - j ≡ suc (n - (j + 1)) = omega arith in
    let next : suc j ≡ j + 1 = omega arith in
    ap (λ k. list_all test (numbers_from j k)) some
    ∙ ap (λ t. t && list_all test (numbers_from (suc j) (n - (j + 1)))) is
    ∙ ap (λ k. b && list_all test (numbers_from k (n - (j + 1)))) next

pub list_all-numbers_end : (test : ℕ → Bool) (j n : ℕ) → n ≤ j → list_all test (numbers_from j (n - j)) ≡ true
list_all-numbers_end test j n past = let none : n - j ≡ 0 =
    omega arith in ap (λ k. list_all test (numbers_from j k)) none

-- ---- the entries of an image

pub same-at : (image : Vector) (rows : List Vector) (v row : Vector) (i : ℕ) (b : Bool) → i < length image →
    slice_get rows i ≡ Some row →
    int_eq (get_or image i (pos 0)) (dot row v) ≡ b →
    same (drop i image) (map (λ r. dot r v) (drop i rows))
    ≡ (b && same (drop (i + 1) image) (map (λ r. dot r v) (drop (i + 1) rows)))
same-at image rows v row i b low there is =
    (λ k. same (drop-entry image i (pos 0) low k) (map (λ r. dot r v) (drop-at rows i row there k)))
    ∙ ap (λ t. t && same (drop (i + 1) image) (map (λ r. dot r v) (drop (i + 1) rows))) is

pub same-end : (image : Vector) (rows : List Vector) (v : Vector) (i : ℕ) → length image ≤ i → length rows ≤ i →
    same (drop i image) (map (λ r. dot r v) (drop i rows)) ≡ true
same-end image rows v i past over = λ k. same (drop_all i image past k) (map (λ r. dot r v) (drop_all i rows over k))

-- ---- rising lists

pub is_rising-at : (vs : List Vector) (i : ℕ) (u v : Vector) (b : Bool) → slice_get vs i ≡ Some u →
    slice_get vs (i + 1) ≡ Some v → lex_less u v ≡ b →
    is_rising (drop i vs) ≡ (b && is_rising (drop (i + 1) vs))
is_rising-at vs i u v b here there is =
    let rest : drop (i + 1) vs ≡ v ∷ drop (i + 1 + 1) vs = drop-at vs (i + 1) v there in
    ap is_rising (drop-at vs i u here ∙ ap (λ t. u ∷ t) rest)
    ∙ ap (λ t. t && is_rising (v ∷ drop (i + 1 + 1) vs)) is
    ∙ ap (λ t. b && is_rising t) (sym rest)

pub is_rising-end : (vs : List Vector) (i : ℕ) → length vs ≤ i + 1 → is_rising (drop i vs) ≡ true
is_rising-end [] zero past = refl
is_rising-end [] (suc i) past = refl
is_rising-end (v ∷ []) zero past = refl
is_rising-end (v ∷ w ∷ vs) zero past = absurd (omega arith)
is_rising-end (v ∷ vs) (suc i) past = is_rising-end vs i (omega arith)
