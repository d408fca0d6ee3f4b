-- What stands at a place of a list.
use Rattle.std.proofs.Common.{◌≡◌, ◌≢◌, ℕ, zero, suc, ◌<◌, List, [], ◌∷◌, length, refl, ap, arith, Option, Some, None}
use Rattle.std.proofs.Math.ListN.{set}
use Rattle.std.specs.Prelude.{slice_get}

module _ {A : Type 0} where
  pub not_none : {P : Type 0} (o : Option A) (a : A) → o ≡ Some a → o ≡ None → P
  not_none o a p q = absurd (cc)

  -- what was written stands at its place
  pub slice_get-set_same : (xs : List A) (i : ℕ) (x : A) → i < length xs → slice_get (set xs i x) i ≡ Some x
  slice_get-set_same [] i x low = absurd (omega arith)
  slice_get-set_same (y ∷ xs) zero x low = refl
  slice_get-set_same (y ∷ xs) (suc i) x low = slice_get-set_same xs i x (omega arith)

  -- and all other places are as they were
  pub slice_get-set_other : (xs : List A) (i j : ℕ) (x : A) → j ≢ i → slice_get (set xs i x) j ≡ slice_get xs j
  slice_get-set_other [] i j x other = refl
  slice_get-set_other (y ∷ xs) zero zero x other = absurd (other refl)
  slice_get-set_other (y ∷ xs) zero (suc j) x other = refl
  slice_get-set_other (y ∷ xs) (suc i) zero x other = refl
  slice_get-set_other (y ∷ xs) (suc i) (suc j) x other = slice_get-set_other xs i j x (λ e. other (ap suc e))
