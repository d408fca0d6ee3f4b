-- Places of a list: what stands at a place, the members of a list as its places, and one element more behind a list.
use Rattle.std.proofs.Common.{◌≡◌, ℕ, zero, suc, ◌+◌, ◌<◌, List, [], ◌∷◌, ◌++◌, length, drop, get_or, refl, ap, arith}
use Rattle.std.proofs.Common.{sym, ◌∙◌, Contains, ◌⊎◌, inl, inr, Option, Some, slice_get, All, subst}
use Rattle.std.proofs.lemmas.Option.{same_Some, slice_get_within, slice_get-get_or, get_or_from_slice_get}
use Rattle.std.specs.Prelude.{IfSome}
use Rattle.std.proofs.lemmas.List.Elements.{All-contains}

module _ {A : Type 0} where
  -- one option holds one value
  pub same_value : (o : Option A) (a b : A) → o ≡ Some a → o ≡ Some b → a ≡ b
  same_value o a b p q = cc

  -- each place of a list is taken
  pub there_at : (xs : List A) (i : ℕ) → i < length xs → (x : A) × (slice_get xs i ≡ Some x)
  there_at [] i low = absurd (omega arith)
  there_at (x ∷ xs) i low = (get_or (x ∷ xs) i x, slice_get-get_or (x ∷ xs) i x low)

  -- what stands at a place is a member
  pub contains_at : (xs : List A) (i : ℕ) (x : A) → slice_get xs i ≡ Some x → Contains xs x
  contains_at xs i x there = (i, slice_get_within xs i x there, get_or_from_slice_get xs i x x there)

  -- a member stands at some place
  pub place_of : (xs : List A) (x : A) → Contains xs x → (i : ℕ) × (slice_get xs i ≡ Some x)
  place_of xs x (i, low, e) = (i, slice_get-get_or xs i x low ∙ ap Some e)

  -- what holds of each element holds of the one at a place
  pub slice_get-All : (P : A → Type 0) (xs : List A) (i : ℕ) (x : A) → slice_get xs i ≡ Some x → All P xs → P x
  slice_get-All P xs i x there all = All-contains P xs x all (contains_at xs i x there)

  -- what holds of the value of an option
  pub if_some : (P : A → Type 0) (o : Option A) (x : A) → o ≡ Some x → IfSome o P → P x
  if_some P o x is holds = subst (λ p. IfSome p P) is holds

  -- a list from the place of an element on
  pub drop-at : (xs : List A) (i : ℕ) (x : A) → slice_get xs i ≡ Some x → drop i xs ≡ x ∷ drop (i + 1) xs
  drop-at [] i x h = absurd (cc)
  drop-at (y ∷ xs) zero x h = let e : y ≡ x = cc in ap (λ t. t ∷ xs) e
  drop-at (y ∷ xs) (suc i) x h =
      let next : suc i + 1 ≡ suc (i + 1) = omega arith in
      drop-at xs i x h ∙ ap (λ n. x ∷ drop n (y ∷ xs)) (sym next)

  -- the same, with what is read there
  pub drop-entry : (xs : List A) (i : ℕ) (d : A) → i < length xs → drop i xs ≡ get_or xs i d ∷ drop (i + 1) xs
  drop-entry xs i d low = drop-at xs i (get_or xs i d) (slice_get-get_or xs i d low)

  -- what stands at a place after one more element
  pub slice_get-push : (xs : List A) (x y : A) (i : ℕ) → slice_get (xs ++ x ∷ []) i ≡ Some y →
      (slice_get xs i ≡ Some y) ⊎ ((i ≡ length xs) × (x ≡ y))
  slice_get-push [] x y zero e = inr (refl, same_Some x y e)
  slice_get-push [] x y (suc i) e = absurd (cc)
  slice_get-push (z ∷ xs) x y zero e = inl e
  slice_get-push (z ∷ xs) x y (suc i) e =
      elim (slice_get-push xs x y i e) [ inl before ↦ inl before | inr last ↦ inr (ap suc last.0, last.1) ]
