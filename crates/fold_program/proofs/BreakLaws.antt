-- What a point breaks, place by place.
use Rattle.std.proofs.Common.{◌≡◌, ℕ, ◌+◌, ◌<◌, ℤ, pos, ◌-ℤ◌, List, [], ◌∷◌, ◌++◌, length, drop, get_or, map, refl, ap}
use Rattle.std.proofs.Common.{arith, Some, None, slice_get, cond, add-one, ◌≤◌, ◌-◌, unsigned_abs, nat_eq}
use Rattle.std.proofs.Math.Seq.{drop-cons}
use Rattle.std.proofs.lemmas.List.{drop_all}
use Rattle.std.proofs.lemmas.Option.{get_or_from_slice_get, slice_get_within}
use Rattle.lattice_theory.specs.Lists.{zip_with}
use Rattle.lattice_theory.specs.Vectors.{Vector, sub, dot}
use Rattle.fold_theory.specs.declared.Broken.{Broken}
use Rattle.fold_theory.specs.Programs.{Brick, Bricks}
use Rattle.fold_theory.specs.Breaks.{row_breaks, first_of, over_bricks}
use Rattle.lattice_laws.proofs.Places.{drop-at}

-- what is left of the rests from a place on
abbrev pub rests_from : ℕ → Vector → List Vector → Vector → Vector
rests_from at right rows v = sub (drop at right) (map (λ row. dot row v) (drop at rows))

pub rests_step : (at : ℕ) (right : Vector) (rows : List Vector) (v row : Vector) (d : ℤ) → at < length right →
    slice_get rows at ≡ Some row →
    rests_from at right rows v ≡ (get_or right at d -ℤ dot row v) ∷ rests_from (at + 1) right rows v
rests_step at right rows v row d inside there =
    let within : at < length rows = slice_get_within rows at row there in
    let is : get_or rows at [] ≡ row = get_or_from_slice_get rows at row [] there in
    rw (add-one, drop-cons right at d inside, drop-cons rows at [] within, is) refl

-- the first row from a place on: the row there, if it is missed, or the first after it
pub row_breaks_step : (name : ℕ → Broken) (at : ℕ) (right : Vector) (rows : List Vector)
    (v row : Vector) → at < length right → slice_get rows at ≡ Some row →
    row_breaks name (at + 1) (map unsigned_abs (rests_from at right rows v))
    ≡ cond (nat_eq (unsigned_abs (get_or right at (pos 0) -ℤ dot row v)) 0) [] (name (at + 1) ∷ [])
    ++ row_breaks name (at + 1 + 1) (map unsigned_abs (rests_from (at + 1) right rows v))
row_breaks_step name at right rows v row inside there =
    rw (rests_step at right rows v row (pos 0) inside there) (rw (add-one, add-one) refl)

pub first_of_some : {A : Type 0} → (xs ys : List A) (a : A) → first_of xs ≡ Some a → first_of (xs ++ ys) ≡ Some a
first_of_some [] ys a e = absurd (cc)
first_of_some (x ∷ xs) ys a e = e

pub first_of_none : {A : Type 0} → (xs ys : List A) → first_of xs ≡ None → first_of (xs ++ ys) ≡ first_of ys
first_of_none [] ys e = refl
first_of_none (x ∷ xs) ys e = absurd (cc)

-- what the bricks from a place on break: first what the brick there breaks
pub over_bricks_step : (f : ℕ → Brick → Vector → List Broken) (i k : ℕ) (bs : List Brick) (x : Bricks) (b : Brick)
    (v : Vector) → slice_get bs k ≡ Some b → slice_get x k ≡ Some v →
    over_bricks f i (drop k bs) (drop k x) ≡ f i b v ++ over_bricks f (i + 1) (drop (k + 1) bs) (drop (k + 1) x)
over_bricks_step f i k bs x b v brick vector =
    rw (drop-at bs k b brick, drop-at x k v vector) (rw (add-one, add-one) refl)

-- every brick was looked at
pub over_bricks_end : (f : ℕ → Brick → Vector → List Broken) (i k : ℕ) (bs : List Brick) (x : Bricks) → length bs ≤ k →
    over_bricks f i (drop k bs) (drop k x) ≡ []
over_bricks_end f i k bs x all = rw (drop_all k bs all) refl

-- the same by the brick's number: what brick i breaks, and then what the bricks after it break
pub from_brick : (f : ℕ → Brick → Vector → List Broken) (i : ℕ) (bs : List Brick) (x : Bricks) (b : Brick)
    (v : Vector) → 1 ≤ i → slice_get bs (i - 1) ≡ Some b → slice_get x (i - 1) ≡ Some v →
    over_bricks f i (drop (i - 1) bs) (drop (i - 1) x) ≡ f i b v ++ over_bricks f (i + 1) (drop (i + 1 - 1) bs)
    (drop (i + 1 - 1) x)
from_brick f i bs x b v from brick vector =
    let next : i + 1 - 1 ≡ i - 1 + 1 = omega arith in
    rw next (over_bricks_step f i (i - 1) bs x b v brick vector)

-- the first row from row i on: this one, if it misses anything, or the first after it
pub from_row : (name : ℕ → Broken) (i : ℕ) (misses : List ℕ) (miss : ℕ) → 1 ≤ i → slice_get misses (i - 1) ≡ Some miss →
    row_breaks name i (drop (i - 1) misses) ≡ cond (nat_eq miss 0) [] (name i ∷ []) ++ row_breaks name (i + 1)
    (drop (i + 1 - 1) misses)
from_row name i misses miss from there =
    let next : i + 1 - 1 ≡ i - 1 + 1 = omega arith in
    rw next (rw (drop-at misses (i - 1) miss there) (rw add-one (rw add-one refl)))

pub row_breaks_end : (name : ℕ → Broken) (i : ℕ) (misses : List ℕ) → length misses ≤ i →
    row_breaks name (i + 1) (drop (i + 1 - 1) misses) ≡ []
row_breaks_end name i misses all = ap (row_breaks name (i + 1)) (drop_all (i + 1 - 1) misses (omega arith))

module _ {A B C : Type 0} where
  pub length-zip_with : (f : A → B → C) (xs : List A) (ys : List B) → length (zip_with f xs ys) ≤ length xs
  length-zip_with f [] ys = omega arith
  length-zip_with f (x ∷ xs) [] = omega arith
  length-zip_with f (x ∷ xs) (y ∷ ys) = omega (arith, length-zip_with f xs ys)
