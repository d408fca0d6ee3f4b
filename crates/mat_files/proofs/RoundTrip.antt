-- What is written of a matrix is read again.
use Rattle.std.proofs.Common.{◌≡◌, ◌^◌, ◌<◌, unsigned_abs, [], ◌∷◌, ◌++◌, length, flat_map, Ok, refl, ap, append_assoc}
use Rattle.std.proofs.Common.{arith, subst, sym, get_or, All, FitsSigned}
use Rattle.std.specs.Int.{w64}
use Rattle.std.specs.Fmt.{decimal}
use Rattle.std.proofs.lemmas.Int.{ints}
use Rattle.lattice_theory.specs.Matrices.{Matrix}
use Rattle.mat_files.specs.declared.shape.Shape.{Shape}
use Rattle.mat_files.specs.Tokens.{and_then}
use Rattle.mat_files.specs.Reading.{next_size, next_matrix}
use Rattle.mat_files.specs.MatrixText.{next_shaped, mat_answer, parsed_matrix, row_text, matrix_text, Admits}
use Rattle.mat_files.proofs.PrintedLaws.{Reads, Reads-then, Reads-size, Reads-entries, only-printed}

-- what is written of a matrix is read as that matrix, within each shape that admits it
pub parsed_matrix-text : (s : Shape) (m : Matrix) → Admits s m → length m.rows < 2 ^ 32 → m.cols < 2 ^ 32
    → All (λ row. All (λ a. FitsSigned w64 a) row) m.rows
    → parsed_matrix s (matrix_text m) ≡ Ok m
parsed_matrix-text s m admits few_rows few_cols narrow =
    let r = length m.rows in
    let body = flat_map row_text m.rows in
    let row_word = decimal r ++ 32 ∷ [] in
    let col_word = decimal m.cols ++ 10 ∷ [] in
    let text : matrix_text m ≡ row_word ++ (col_word ++ body) = simp append_assoc in
    let entries = Reads-entries s.largest m admits.width admits.entries below in
    let from_cols = Reads-then (next_size s.cols_from s.cols_to) (λ cols left. next_matrix r cols s.largest left)
    col_word body
    m.cols m (Reads-size s.cols_from s.cols_to 10 m.cols admits.least_cols admits.most_cols (omega arith) refl)
    entries in
    let from_rows : Reads (next_shaped s) (row_word ++ (col_word ++ body)) m =
    Reads-then (next_size s.rows_from s.rows_to)
    (λ rows left. and_then (next_size s.cols_from s.cols_to left) (λ cols. next_matrix rows cols.0 s.largest cols.1))
    row_word (col_word ++ body) r m
    (Reads-size s.rows_from s.rows_to 32 r admits.least_rows admits.most_rows (omega arith) refl) from_cols in
    ap mat_answer (only-printed (next_shaped s) (matrix_text m) m
    (subst (λ t. Reads (next_shaped s) t m) (sym text) from_rows))
  where
    below : All (λ row. All (λ a. unsigned_abs a < 10 ^ 64) row) m.rows
    below k d inside j e there =
        let fits : FitsSigned w64 (get_or (get_or m.rows k d) j e) = narrow k d inside j e there in omega (arith, ints)
