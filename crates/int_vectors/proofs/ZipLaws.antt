-- Laws of a list that is made place by place from two others.
use Rattle.std.proofs.Common.{◌≡◌, List, [], ◌∷◌, ◌++◌, length, arith, sym, ◌∙◌, ◌⊎◌, inl, inr, append_assoc}
use Rattle.std.proofs.lemmas.List.{append-nil}
use Rattle.lattice_theory.specs.Lists.{zip_with}

module _ {A B C : Type 0} (f : A → B → C) where
  -- one place on, what f gives there goes from what is left behind what is done
  pub zip_with-step : (done whole : List C) (x : A) (y : B) (xs xs' : List A) (ys ys' : List B) → xs ≡ x ∷ xs' →
      ys ≡ y ∷ ys' →
      done ++ zip_with f xs ys ≡ whole → (done ++ f x y ∷ []) ++ zip_with f xs' ys' ≡ whole
  zip_with-step done whole x y xs xs' ys ys' left right so_far =
      append_assoc done (f x y ∷ []) (zip_with f xs' ys') ∙ rw (left, right) at so_far

  -- where nothing is left of one of the two, what is done is the whole
  pub zip_with-done : (done whole : List C) (xs : List A) (ys : List B) → (length xs ≡ 0) ⊎ (length ys ≡ 0) →
      done ++ zip_with f xs ys ≡ whole → done ≡ whole
  zip_with-done done whole [] ys ended so_far = sym (append-nil done) ∙ so_far
  zip_with-done done whole (x ∷ xs) [] ended so_far = sym (append-nil done) ∙ so_far
  zip_with-done done whole (x ∷ xs) (y ∷ ys) (inl none) so_far = absurd (omega arith)
  zip_with-done done whole (x ∷ xs) (y ∷ ys) (inr none) so_far = absurd (omega arith)
