-- Sums over the bricks of a point, brick by brick.
use Rattle.std.proofs.Common.{◌≡◌, ℕ, zero, suc, ◌+◌, ◌-◌, ◌≤◌, ℤ, pos, ◌+ℤ◌, List, [], ◌∷◌, length, drop, map, ap}
use Rattle.std.proofs.Common.{arith, Some, slice_get}
use Rattle.std.proofs.lemmas.List.{drop_all}
use Rattle.lattice_theory.specs.Lists.{zip_with, total}
use Rattle.lattice_theory.specs.Vectors.{Vector, dot}
use Rattle.fold_theory.specs.Programs.{Bricks}
use Rattle.lattice_laws.proofs.Places.{drop-at}
use Rattle.fold_program.proofs.ViewLaws.{same_some}

-- what is left of the sum of a row's products, from brick i on
abbrev pub products_from : ℕ → Vector → Bricks → ℤ
products_from i w x = total (map (dot w) (drop (i - 1) x))

pub products_step : (i : ℕ) (w : Vector) (x : Bricks) (v : Vector) → 1 ≤ i → slice_get x (i - 1) ≡ Some v →
    products_from i w x ≡ (dot w v +ℤ products_from (i + 1) w x)
products_step i w x v from there =
    let next : i + 1 - 1 ≡ i - 1 + 1 = omega arith in
    rw next (ap (λ (y : Bricks). total (map (dot w) y)) (drop-at x (i - 1) v there))

pub products_end : (i : ℕ) (w : Vector) (x : Bricks) → length x ≤ i → products_from (i + 1) w x ≡ pos 0
products_end i w x all = ap (λ (y : Bricks). total (map (dot w) y)) (drop_all (i + 1 - 1) x (omega arith))

module _ {A B C : Type 0} where
  pub zip_with-at : (f : A → B → C) (xs : List A) (ys : List B) (i : ℕ) (x : A) (y : B) → slice_get xs i ≡ Some x →
      slice_get ys i ≡ Some y →
      slice_get (zip_with f xs ys) i ≡ Some (f x y)
  zip_with-at f [] ys i x y first second = absurd (cc)
  zip_with-at f (a ∷ xs) [] i x y first second = absurd (cc)
  zip_with-at f (a ∷ xs) (b ∷ ys) zero x y first second =
      let p : a ≡ x = same_some a x first in
      let q : b ≡ y = same_some b y second in
      cc
  zip_with-at f (a ∷ xs) (b ∷ ys) (suc i) x y first second = zip_with-at f xs ys i x y first second
