-- Laws of the elements of a lattice: of unit vectors, and of narrow sums.
use Rattle.std.proofs.Common.{◌≡◌, ℕ, zero, suc, ◌+◌, ◌<◌, ◌^◌, ℤ, pos, ◌*ℤ◌, unsigned_abs, List, [], ◌∷◌, ◌++◌, length}
use Rattle.std.proofs.Common.{map, take, replicate, set, get_or, refl, ap, arith, ◌∙◌, subst, All, Some, slice_get}
use Rattle.std.proofs.Common.{IfSome}
use Rattle.std.specs.List.{AllByRecursion}
use Rattle.std.proofs.lemmas.Int.{ints}
use Rattle.std.proofs.lemmas.Option.{slice_get-get_or, get_or_from_slice_get}
use Rattle.std.proofs.lemmas.List.{map_more}
use Rattle.std.proofs.lemmas.List.Elements.{All-get_or}
use Rattle.std.proofs.Math.IntN.{*ℤ_comm}
use Rattle.lattice_theory.specs.Vectors.{Vector, opposite, dot}
use Rattle.lattice_theory.specs.Matrices.{Matrix, unit_vector}
use Rattle.lattice_theory.specs.BasisLimits.{IsNarrow}
use Rattle.lattice_laws.proofs.Signs.{abs_opposite}
use Rattle.lattice_laws.proofs.Products.{dot-zeros}
use Rattle.lattice_laws.proofs.Conformal.{length-opposite}
use Rattle.lattice_laws.proofs.Narrow.{narrow-opposite}
use Rattle.lattice_laws.proofs.Places.{slice_get-All}
use Rattle.complete_lists.specs.Searches.{FitsRows}

-- ---- unit vectors

pub unit-set : (n j : ℕ) → j < n → set (replicate n (pos 0)) j (pos 1) ≡ unit_vector n j
unit-set zero j low = absurd (omega arith)
unit-set (suc n) zero low = refl
unit-set (suc n) (suc j) low = ap (λ v. pos 0 ∷ v) (unit-set n j (omega arith))

-- the product with a unit vector is an entry of the row
pub dot-unit : (row : Vector) (n j : ℕ) → j < length row → length row ≡ n → dot row (unit_vector n j)
    ≡ get_or row j (pos 0)
dot-unit [] n j low size = absurd (omega arith)
dot-unit (a ∷ row) zero j low size = absurd (omega arith)
dot-unit (a ∷ row) (suc n) zero low size =
    let one : a *ℤ pos 1 ≡ a = *ℤ_comm a (pos 1) ∙ omega (arith, ints) in
    omega (arith, ints, one, dot-zeros row n)
dot-unit (a ∷ row) (suc n) (suc j) low size =
    let none : a *ℤ pos 0 ≡ pos 0 = *ℤ_comm a (pos 0) ∙ omega (arith, ints) in
    omega (arith, ints, none, dot-unit row n j (omega arith) (omega arith))

-- what is read in a row
entry_read : (rows : List Vector) (i j : ℕ) (x : ℤ) → i < length rows →
    IfSome (slice_get rows i) (λ r. slice_get r j ≡ Some x) →
    slice_get (get_or rows i []) j ≡ Some x
entry_read rows i j x low read =
    subst (λ o. IfSome o (λ r. slice_get r j ≡ Some x)) (slice_get-get_or rows i [] low) read

-- one row more
pub unit-more : (rows : List Vector) (cols i j : ℕ) (x : ℤ) → i < length rows → j < cols →
    All (λ row. length row ≡ cols) rows →
    IfSome (slice_get rows i) (λ r. slice_get r j ≡ Some x) →
    map (λ r. dot r (unit_vector cols j)) (take (i + 1) rows)
    ≡ map (λ r. dot r (unit_vector cols j)) (take i rows) ++ x ∷ []
unit-more rows cols i j x low col widths read =
    let row : Vector = get_or rows i [] in
    let wide : length row ≡ cols = All-get_or (λ r. length r ≡ cols) rows i [] low widths in
    let value : dot row (unit_vector cols j) ≡ x =
    dot-unit row cols j (omega arith) wide ∙ get_or_from_slice_get row j x (pos 0) (entry_read rows i j x low read) in
    map_more (λ r. dot r (unit_vector cols j)) rows i [] low
    ∙ ap (λ a. map (λ r. dot r (unit_vector cols j)) (take i rows) ++ a ∷ []) value

pub entry-narrow : (rows : List Vector) (i j : ℕ) (x : ℤ) → i < length rows → All IsNarrow rows →
    IfSome (slice_get rows i) (λ r. slice_get r j ≡ Some x) → unsigned_abs x < 2 ^ 31
entry-narrow rows i j x low narrow read =
    slice_get-All (λ a. unsigned_abs a < 2 ^ 31) (get_or rows i []) j x (entry_read rows i j x low read)
    (All-get_or IsNarrow rows i [] low narrow)

-- ---- opposites

narrow_opposite : (v : Vector) → AllByRecursion (λ a. unsigned_abs a < 2 ^ 31) v →
    AllByRecursion (λ a. unsigned_abs a < 2 ^ 31) (opposite v)
narrow_opposite [] narrow = tt
narrow_opposite (a ∷ v) narrow = (omega (arith, abs_opposite a, narrow.0), narrow_opposite v narrow.1)

-- so one that may be a row
pub FitsRows-opposite : (basis : Matrix) (v : Vector) → FitsRows basis v → FitsRows basis (opposite v)
FitsRows-opposite basis v fits = record {
  narrow = narrow-opposite v fits.narrow;
  width = length-opposite v ∙ fits.width;
}
