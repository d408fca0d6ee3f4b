-- The menus of a run: those of one length more, and from those at one point to those at another.
use Rattle.std.proofs.Common.{◌≡◌, ◌≢◌, ℕ, ◌+◌, ◌<◌, ◌≤◌, List, [], ◌∷◌, ◌++◌, length, refl, ap, arith, sym, ◌∙◌, Some}
use Rattle.std.proofs.Common.{slice_get, subst, ◌⊎◌, inl, inr}
use Rattle.std.proofs.lemmas.List.{length-append}
use Rattle.std.proofs.lemmas.Option.{slice_get_within}
use Rattle.std.proofs.lemmas.Bool.{cases_order}
use Rattle.std.proofs.Math.ListN.{set}
use Rattle.fold_theory.specs.Programs.{Bricks}
use Rattle.run_theory.specs.Folds.{FoldValue}
use Rattle.lattice_laws.proofs.Places.{same_value, slice_get-push}
use Rattle.sieve_laws.specs.Sieve.{Menu}
use Rattle.sieve_laws.proofs.Cells.{slice_get-set_same, slice_get-set_other}
use Rattle.brick_dp.specs.Menus.{AreMenus}

-- the menus at a point of the first n lengths
pub record AreFirstMenus (f : FoldValue) (x : Bricks) (menus : List (List Menu)) (n : ℕ) : Type 0 where
  pub size : length menus ≡ n
  pub each : (k : ℕ) (m : List Menu) → slice_get menus k ≡ Some m → AreMenus f x k m

pub first_none : (f : FoldValue) (x : Bricks) → AreFirstMenus f x [] 0
first_none f x = record { size = refl; each = λ k m there. absurd (cc) }

pub first_more : (f : FoldValue) (x : Bricks) (menus more : List (List Menu)) (n : ℕ) (m : List Menu) →
    AreMenus f x n m → more ≡ menus ++ m ∷ [] →
    AreFirstMenus f x menus n → AreFirstMenus f x more (n + 1)
first_more f x menus more n m here is so_far = record {
  size = omega (arith, ap length is, length-append menus (m ∷ []), so_far.size);
  each = λ k other there. by k other (slice_get-push menus m other k (ap (λ ms. slice_get ms k) (sym is) ∙ there));
}
  where
    by : (k : ℕ) (other : List Menu) → (slice_get menus k ≡ Some other) ⊎ ((k ≡ length menus) × (m ≡ other)) →
        AreMenus f x k other
    by k other (inl before) = so_far.each k other before
    by k other (inr last) = subst (AreMenus f x k) last.1
        (subst (λ j. AreMenus f x j m) (sym (last.0 ∙ so_far.size)) here)

-- the menus of the first n lengths are those at y, the others at x
pub record AreFollowing (f : FoldValue) (x y : Bricks) (menus : List (List Menu)) (n : ℕ) : Type 0 where
  pub done : (k : ℕ) (m : List Menu) → k < n → slice_get menus k ≡ Some m → AreMenus f y k m
  pub rest : (k : ℕ) (m : List Menu) → n ≤ k → slice_get menus k ≡ Some m → AreMenus f x k m

pub following_none : (f : FoldValue) (x y : Bricks) (menus : List (List Menu)) →
    ((k : ℕ) (m : List Menu) → slice_get menus k ≡ Some m → AreMenus f x k m) → AreFollowing f x y menus 0
following_none f x y menus each = record {
  done = λ k m low. absurd (omega (arith, low));
  rest = λ k m low there. each k m there;
}

pub following_more : (f : FoldValue) (x y : Bricks) (menus more : List (List Menu)) (n : ℕ) (m : List Menu) →
    AreMenus f y n m → more ≡ set menus n m →
    n < length menus → AreFollowing f x y menus n → AreFollowing f x y more (n + 1)
following_more f x y menus more n m here is low so_far = record {
  done = λ k other under there. by k other under there (cases_order k n);
  rest = λ k other under there. so_far.rest k other (omega (arith, under))
      (others k other (λ e. omega (arith, under, e)) there);
}
  where
    others : (k : ℕ) (other : List Menu) → k ≢ n → slice_get more k ≡ Some other → slice_get menus k ≡ Some other
    others k other apart there = sym (slice_get-set_other menus n k m apart) ∙ ap (λ ms. slice_get ms k) (sym is)
        ∙ there

    by : (k : ℕ) (other : List Menu) → k < n + 1 → slice_get more k ≡ Some other → (k ≡ n) ⊎ ((k < n) ⊎ (n < k)) →
        AreMenus f y k other
    by k other under there (inl same) =
        let written : m ≡ other =
        same_value (slice_get more n) m other (ap (λ ms. slice_get ms n) is ∙ slice_get-set_same menus n m low)
        (ap (slice_get more) (sym same) ∙ there) in
        subst (AreMenus f y k) written (subst (λ j. AreMenus f y j m) (sym same) here)
    by k other under there (inr (inl before)) =
        so_far.done k other before (others k other (λ e. omega (arith, before, e)) there)
    by k other under there (inr (inr behind)) = absurd (omega (arith, under, behind))

pub following_all : (f : FoldValue) (x y : Bricks) (menus : List (List Menu)) (n : ℕ) → length menus ≤ n →
    AreFollowing f x y menus n →
    (k : ℕ) (m : List Menu) → slice_get menus k ≡ Some m → AreMenus f y k m
following_all f x y menus n all so_far k m there =
    so_far.done k m (omega (arith, all, slice_get_within menus k m there)) there
