-- Matrix files: what is accepted, the first fault of what is not, and the text of a matrix.
use Rattle.std.specs.Prelude.{◌≡◌, ℕ, ◌≤◌, unsigned_abs, List, [], ◌∷◌, ◌++◌, All, map, length, flat_map, Result, Ok}
use Rattle.std.specs.Prelude.{Err}
use Rattle.std.specs.Fmt.{decimal, signed_decimal}
use Rattle.std.specs.List.{join_with_byte}
use Rattle.lattice_theory.specs.Vectors.{Vector}
use Rattle.lattice_theory.specs.Matrices.{Matrix}
use Rattle.mat_files.specs.declared.shape.Shape.{Shape}
use Rattle.mat_files.specs.declared.fault.MatFault.{MatFault}
use Rattle.mat_files.specs.declared.fault.MatFault.TheVariants as fault
use Rattle.mat_files.specs.declared.fault.FaultKind.{FaultKind}
use Rattle.mat_files.specs.declared.fault.FaultKind.TheVariants as kind
use Rattle.mat_files.specs.declared.fault.TokenFault.{TokenFault}
use Rattle.mat_files.specs.Tokens.{Left, and_then}
use Rattle.mat_files.specs.Reading.{Read, next_size, next_matrix, only}

-- the fault of a matrix file; it has no fixed words, and its sizes have faults of their own
abbrev pub mat_fault_of : ℕ → FaultKind → MatFault
mat_fault_of at kind.Word = fault.NotNumber at
mat_fault_of at kind.NotNumber = fault.NotNumber at
mat_fault_of at kind.NoBound = fault.NoBound at
mat_fault_of at kind.TooBig = fault.TooBig at
mat_fault_of at kind.TooMany = fault.TooBig at
mat_fault_of at (kind.Size got from to) = fault.Shape at got from to
mat_fault_of at kind.EndsEarly = fault.EndsEarly at
mat_fault_of at kind.Extra = fault.Extra at
mat_fault_of at kind.Memory = fault.Memory

abbrev pub mat_fault : TokenFault → MatFault
mat_fault f = mat_fault_of f.at f.kind

-- the answer of a matrix file
abbrev pub mat_answer : {A : Type 0} → Result A TokenFault → Result A MatFault
mat_answer (Ok a) = Ok a
mat_answer (Err f) = Err (mat_fault f)

-- a matrix within the shape: its number of rows, its number of columns, and its entries
abbrev pub next_shaped : Shape → Left → Read Matrix
next_shaped shape left =
    and_then (next_size shape.rows_from shape.rows_to left) (λ rows.
    and_then (next_size shape.cols_from shape.cols_to rows.1) (λ cols.
    next_matrix rows.0 cols.0 shape.largest cols.1))

-- the matrix that the bytes spell, or the fault of the first token that is refused
abbrev pub parsed_matrix : Shape → List ℕ → Result Matrix MatFault
parsed_matrix shape bytes = mat_answer (only (next_shaped shape) bytes)

-- it is the fault that reading gives, or memory ran out
abbrev pub IsMatFault : {A : Type 0} → Result A MatFault → MatFault → Type 0
IsMatFault read fault.Memory = Unit {0}
IsMatFault read f = read ≡ Err f

-- numbers with one space between them, and a line feed
abbrev pub row_text : Vector → List ℕ
row_text v = join_with_byte 32 (map signed_decimal v) ++ 10 ∷ []

-- the text of a matrix: its numbers of rows and columns, and then each row on a line
abbrev pub matrix_text : Matrix → List ℕ
matrix_text m = decimal (length m.rows) ++ 32 ∷ decimal m.cols ++ 10 ∷ [] ++ flat_map row_text m.rows

-- the numbers of rows and columns and the entries are within the shape, and each row has an entry for each column
pub record Admits (s : Shape) (m : Matrix) : Type 0 where
  pub least_rows : s.rows_from ≤ length m.rows
  pub most_rows : length m.rows ≤ s.rows_to
  pub least_cols : s.cols_from ≤ m.cols
  pub most_cols : m.cols ≤ s.cols_to
  pub width : All (λ row. length row ≡ m.cols) m.rows
  pub entries : All (λ row. All (λ a. unsigned_abs a ≤ s.largest) row) m.rows
