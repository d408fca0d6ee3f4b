-- The sums of a matrix, row by row.
use Rattle.std.proofs.Common.{◌≡◌, ℕ, pos, unsigned_abs, List, [], ◌∷◌, length, drop, get_or, Some, refl, ap, sym, ◌∙◌}
use Rattle.std.proofs.Common.{slice_get, option_map, IfSome, subst}
use Rattle.std.proofs.lemmas.Option.{slice_get-map}
use Rattle.std.proofs.lemmas.List.{length-map}
use Rattle.lattice_theory.specs.Vectors.{Vector}
use Rattle.run_theory.specs.Certificates.{sum_of_row}
use Rattle.listed_sums.specs.Places.{sums_of, vectors_of}

pub sum-at : (rows : List Vector) (i : ℕ) (row : Vector) → slice_get rows i ≡ Some row →
    slice_get (sums_of rows) i ≡ Some (sum_of_row row)
sum-at rows i row here = slice_get-map sum_of_row rows i ∙ ap (option_map sum_of_row) here

vector-of : (row : Vector) → (sum_of_row row).vector ≡ drop 1 row
vector-of [] = refl
vector-of (a ∷ v) = refl

level-of : (row : Vector) → (sum_of_row row).level ≡ unsigned_abs (get_or row 0 (pos 0))
level-of [] = refl
level-of (a ∷ v) = refl

-- the vector and the level at a place
pub vector-at : (rows : List Vector) (i : ℕ) (row : Vector) → slice_get rows i ≡ Some row →
    slice_get (vectors_of rows) i ≡ Some (drop 1 row)
vector-at rows i row here =
    slice_get-map (λ s. s.vector) (sums_of rows) i ∙ ap (option_map (λ s. s.vector)) (sum-at rows i row here)
    ∙ ap Some (vector-of row)

pub level-at : (rows : List Vector) (i : ℕ) (row : Vector) → slice_get rows i ≡ Some row →
    IfSome (slice_get (sums_of rows) i) (λ s. s.level ≡ unsigned_abs (get_or row 0 (pos 0)))
level-at rows i row here =
    subst (λ o. IfSome o (λ s. s.level ≡ unsigned_abs (get_or row 0 (pos 0)))) (sym (sum-at rows i row here))
    (level-of row)

pub length-vectors_of : (rows : List Vector) → length (vectors_of rows) ≡ length rows
length-vectors_of rows =
    length-map (sums_of rows) (λ s. s.vector) ∙ length-map rows sum_of_row
