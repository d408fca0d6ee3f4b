-- Laws of the rows of a table whose cells stand row by row.
use Rattle.std.proofs.Common.{◌≡◌, ℕ, zero, suc, ◌-◌, ◌*◌, ◌+◌, ◌<◌, ℤ, List, [], ◌∷◌, length, take, drop, Option, Some}
use Rattle.std.proofs.Common.{slice_get, refl, ap, arith, ◌∙◌, length-take, flat_map, All}
use Rattle.std.proofs.lemmas.List.{drop-drop, length-drop, take_at, drop_at}
use Rattle.std.proofs.lemmas.List.Elements.{All-nil, All-cons, All-take, All-drop}
use Rattle.std.specs.List.{AllByRecursion}
use Rattle.run_theory.specs.Certificates.{table_rows}

-- there are as many rows as are asked for
pub length_table_rows : (n cols : ℕ) (cells : List (Option ℤ)) → length (table_rows n cols cells) ≡ n
length_table_rows zero cols cells = refl
length_table_rows (suc n) cols cells = ap suc (length_table_rows n cols (drop cols cells))

-- row i is the cells from i times the number of columns on
row_of_table : (n cols : ℕ) (cells : List (Option ℤ)) (i : ℕ) → i < n
    → slice_get (table_rows n cols cells) i ≡ Some (take cols (drop (i * cols) cells))
row_of_table zero cols cells i inside = absurd (omega arith)
row_of_table (suc n) cols cells zero inside =
    let none : 0 ≡ 0 * cols = omega arith in ap (λ k. Some (take cols (drop k cells))) none
row_of_table (suc n) cols cells (suc i) inside =
    let more : cols + i * cols ≡ suc i * cols = omega arith in
    row_of_table n cols (drop cols cells) i (omega arith)
    ∙ ap (λ row. Some (take cols row)) (drop-drop (i * cols) cols cells ∙ ap (λ k. drop k cells) more)

-- what a slice of the cells from a row's start on gives is that row
pub row_read : (row rows cols : ℕ) (cells now : List (Option ℤ)) → row < rows → now ≡ cells
    → slice_get (table_rows rows cols cells) row ≡ Some (take (row * cols + cols - row * cols) (drop (row * cols) now))
row_read row rows cols cells now inside same =
    let width : row * cols + cols - row * cols ≡ cols = omega arith in
    rw (width, same) (row_of_table rows cols cells row inside)

-- each row has as many cells as there are columns
pub even_rows : (n cols : ℕ) (cells : List (Option ℤ)) → length cells ≡ n * cols
    → AllByRecursion (λ row. length row ≡ cols) (table_rows n cols cells)
even_rows zero cols cells all = tt
even_rows (suc n) cols cells all =
    let width : length (take cols cells) ≡ cols = simp length-take (omega arith) in
    let left : length (drop cols cells) ≡ n * cols = simp length-drop (omega arith) in
    (width, even_rows n cols (drop cols cells) left)

-- what holds of each cell holds of each cell of each row
pub All-table_rows : (P : Option ℤ → Type 0) (n cols : ℕ) (cells : List (Option ℤ)) → All P cells
    → All (All P) (table_rows n cols cells)
All-table_rows P zero cols cells all = All-nil _
All-table_rows P (suc n) cols cells all =
    All-cons (All P) (take cols cells) (table_rows n cols (drop cols cells)) (All-take P cols cells all)
    (All-table_rows P n cols (drop cols cells) (All-drop P cols cells all))

-- the rows of all cells are the rows
pub table_rows-all : (rows : List (List (Option ℤ))) (cols : ℕ) → AllByRecursion (λ row. length row ≡ cols) rows
    → table_rows (length rows) cols (flat_map (λ row. row) rows) ≡ rows
table_rows-all [] cols width = refl
table_rows-all (row ∷ rows) cols width =
    let front = take_at row (flat_map (λ r. r) rows) cols width.0 in
    let after = drop_at row (flat_map (λ r. r) rows) cols width.0 in
    rw (front, after, table_rows-all rows cols width.1) refl
