-- Laws of the rows of a matrix whose entries stand row by row.
use Rattle.std.proofs.Common.{◌≡◌, ℕ, zero, suc, ◌+◌, ◌-◌, ◌*◌, ◌<◌, ◌≤◌, [], ◌∷◌, ◌++◌, length, take, drop, refl, ap}
use Rattle.std.proofs.Common.{arith, ◌∙◌, Some, slice_get, flat_map, length-take}
use Rattle.std.proofs.lemmas.List.{drop-drop, length-drop, take-append-drop}
use Rattle.std.specs.List.{AllByRecursion}
use Rattle.lattice_theory.specs.Vectors.{Vector}
use Rattle.lattice_theory.specs.Matrices.{rows_of}

-- row i is the entries from i times the number of columns on
pub row_of_rows : (n cols : ℕ) (entries : Vector) (i : ℕ) → i < n → slice_get (rows_of n cols entries) i ≡ Some
    (take cols (drop (i * cols) entries))
row_of_rows zero cols entries i h = absurd (omega arith)
row_of_rows (suc n) cols entries zero h =
    let e : 0 ≡ 0 * cols = omega arith in ap (λ k. Some (take cols (drop k entries))) e
row_of_rows (suc n) cols entries (suc i) h =
    let e : cols + i * cols ≡ suc i * cols = omega arith in
    row_of_rows n cols (drop cols entries) i (omega arith)
    ∙ ap (λ r. Some (take cols r)) (drop-drop (i * cols) cols entries ∙ ap (λ k. drop k entries) e)

-- what a slice of the entries from a row's start on gives is that row
pub row_read : (row rows cols : ℕ) (entries now : Vector) → 1 ≤ row → row ≤ rows → now ≡ entries →
    slice_get (rows_of rows cols entries) (row - 1) ≡ Some (take ((row - 1) * cols + cols - (row - 1) * cols)
    (drop ((row - 1) * cols) now))
row_read row rows cols entries now from to same =
    let width : (row - 1) * cols + cols - (row - 1) * cols ≡ cols = omega arith in
    rw (width, same) (row_of_rows rows cols entries (row - 1) (omega arith))

-- the rows one after the other are the entries
pub all_rows : (n cols : ℕ) (entries : Vector) → length entries ≡ n * cols
    → flat_map (λ row. row) (rows_of n cols entries) ≡ entries
all_rows zero cols [] e = refl
all_rows zero cols (a ∷ entries) e = absurd (omega arith)
all_rows (suc n) cols entries e =
    let left : length (drop cols entries) ≡ n * cols = simp length-drop (omega arith) in
    ap (λ rest. take cols entries ++ rest) (all_rows n cols (drop cols entries) left) ∙ take-append-drop cols entries

-- each row has as many entries as there are columns
pub even_rows : (n cols : ℕ) (entries : Vector) → length entries ≡ n * cols
    → AllByRecursion (λ row. length row ≡ cols) (rows_of n cols entries)
even_rows zero cols entries e = tt
even_rows (suc n) cols entries e =
    let width : length (take cols entries) ≡ cols = simp length-take (omega arith) in
    let left : length (drop cols entries) ≡ n * cols = simp length-drop (omega arith) in
    (width, even_rows n cols (drop cols entries) left)
