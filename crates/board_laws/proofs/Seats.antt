-- Lists of views: what stands at a place, and sums over all seats.
use Rattle.std.proofs.Common.{◌≡◌, ◌≢◌, ℕ, zero, suc, ◌+◌, ◌<◌, ◌≤◌, ◌⊎◌, List, [], ◌∷◌, ◌++◌, length, set, get_or}
use Rattle.std.proofs.Common.{sum_by, refl, ap, sym, ◌∙◌, arith, inl, inr, ⊎_elim}
use Rattle.std.proofs.lemmas.List.Sums.{sum_by-cons, sum_by-set}
use mathlib.Core.Option.{some, some-injective, some-ne-none}
use lib.ListN.{get_elem?}
use Rattle.atomic_table.proofs.Lists.{set_here}
use Rattle.board_laws.specs.declared.views.View.{View}
use Rattle.board_laws.specs.Boards.{IsSeat}

module _ {A : Type 0} where
  -- a place that holds something is one of the list's
  pub place_within : (l : List A) (i : ℕ) (a : A) → get_elem? l i ≡ some a → i < length l
  place_within [] i a is = absurd (some-ne-none a (sym is))
  place_within (x ∷ xs) zero a is = omega arith
  place_within (x ∷ xs) (suc i) a is = let r = place_within xs i a is in omega arith

  -- each place of the list holds something
  pub place_holds : (l : List A) (i : ℕ) → i < length l → (a : A) × (get_elem? l i ≡ some a)
  place_holds [] i lt = absurd (omega arith)
  place_holds (x ∷ xs) zero lt = (x, refl)
  place_holds (x ∷ xs) (suc i) lt = place_holds xs i (omega arith)

  -- the two ways to look up agree
  pub place_get_or : (l : List A) (i : ℕ) (a d : A) → get_elem? l i ≡ some a → get_or l i d ≡ a
  place_get_or [] i a d is = absurd (some-ne-none a (sym is))
  place_get_or (x ∷ xs) zero a d is = some-injective x a is
  place_get_or (x ∷ xs) (suc i) a d is = place_get_or xs i a d is

  -- what was put at a place that held something stands there
  pub place_set : (l : List A) (i : ℕ) (a b : A) → get_elem? l i ≡ some a → get_elem? (set l i b) i ≡ some b
  place_set l i a b is = set_here l i b (place_within l i a is)

  -- one place holds one thing
  pub place_once : (l : List A) (i : ℕ) (a b : A) → get_elem? l i ≡ some a → get_elem? l i ≡ some b → a ≡ b
  place_once l i a b is too = some-injective a b (sym is ∙ too)

  -- what stands in a list with one more at its end
  pub place_push : (l : List A) (a b : A) (j : ℕ) → get_elem? (l ++ a ∷ []) j ≡ some b
      → (get_elem? l j ≡ some b) ⊎ ((j ≡ length l) × (a ≡ b))
  place_push [] a b zero is = inr (refl, some-injective a b is)
  place_push [] a b (suc j) is = absurd (some-ne-none b (sym is))
  place_push (x ∷ xs) a b zero is = inl is
  place_push (x ∷ xs) a b (suc j) is = ⊎_elim (λ s. inl s) (λ s. inr (ap suc s.0, s.1)) (place_push xs a b j is)

-- ---- sums

module _ (f : View → ℕ) where
  -- the sum after one seat's view is another
  pub sum-set : (views : List View) (i : ℕ) (v w : View) → IsSeat views i v
      → sum_by f (set views i w) + f v ≡ sum_by f views + f w
  sum-set views i v w at =
      ap (λ u. sum_by f (set views i w) + f u) (sym (place_get_or views i v v at))
      ∙ sum_by-set f views i w v (place_within views i v at)

  -- no seat counts more than all
  pub sum-one : (views : List View) (i : ℕ) (v : View) → IsSeat views i v → f v ≤ sum_by f views
  sum-one [] i v at = absurd (some-ne-none v (sym at))
  sum-one (x ∷ xs) zero v at =
      let s : f x ≡ f v = ap f (some-injective x v at) in let c = sum_by-cons f x xs in omega arith
  sum-one (x ∷ xs) (suc i) v at =
      let r = sum-one xs i v at in let c = sum_by-cons f x xs in omega arith

  -- nor do two
  pub sum-two : (views : List View) (i j : ℕ) (v w : View) → i ≢ j → IsSeat views i v → IsSeat views j w
      → f v + f w ≤ sum_by f views
  sum-two [] i j v w other at too = absurd (some-ne-none v (sym at))
  sum-two (x ∷ xs) zero zero v w other at too = absurd (other refl)
  sum-two (x ∷ xs) zero (suc j) v w other at too =
      let s : f x ≡ f v = ap f (some-injective x v at) in
      let r = sum-one xs j w too in let c = sum_by-cons f x xs in omega arith
  sum-two (x ∷ xs) (suc i) zero v w other at too =
      let s : f x ≡ f w = ap f (some-injective x w too) in
      let r = sum-one xs i v at in let c = sum_by-cons f x xs in omega arith
  sum-two (x ∷ xs) (suc i) (suc j) v w other at too =
      let r = sum-two xs i j v w (λ e. other (ap suc e)) at too in let c = sum_by-cons f x xs in omega arith

  -- where only the first seat counts, the sum is its count
  pub sum-first : (views : List View) (v : View) → IsSeat views 0 v
      → ((i : ℕ) (u : View) → IsSeat views i u → i ≢ 0 → f u ≡ 0) → sum_by f views ≡ f v
  sum-first [] v at none = absurd (some-ne-none v (sym at))
  sum-first (x ∷ xs) v at none =
      let s : f x ≡ f v = ap f (some-injective x v at) in
      let c = sum_by-cons f x xs in
      let r = rest xs (λ i u is. none (suc i) u is (λ e. absurd (omega arith))) in omega arith where
        rest : (us : List View) → ((i : ℕ) (u : View) → IsSeat us i u → f u ≡ 0) → sum_by f us ≡ 0
        rest [] zeros = refl
        rest (u ∷ us) zeros =
            let a : f u ≡ 0 = zeros 0 u refl in
            let b = rest us (λ i y is. zeros (suc i) y is) in let d = sum_by-cons f u us in omega arith
