-- What a folder's files give: a program, a point of it, or a matrix by itself; or the first fault of reading.
use Rattle.std.specs.Prelude.{ℕ, ◌+◌, ◌-◌, ◌*◌, ◌^◌, ◌++◌, nat_lt, Bool, true, false, List, length, replicate, cond}
use Rattle.std.specs.Prelude.{Some, None, Result, Ok, Err}
use Rattle.lattice_theory.specs.Matrices.{Matrix}
use Rattle.fold_theory.specs.declared.Cost.{Cost}
use Rattle.fold_theory.specs.declared.Relation.{Relation}
use Rattle.fold_theory.specs.declared.Relation.TheVariants.{Equal}
use Rattle.fold_theory.specs.Programs.{Program}
use Rattle.fold_shelf.specs.Outside.{File, file_named}
use Rattle.mat_files.specs.declared.Shape.{Shape}
use Rattle.mat_files.specs.declared.MatFault.{MatFault}
use Rattle.mat_files.specs.Tokens.{and_then}
use Rattle.mat_files.specs.MatrixText.{parsed_matrix}
use Rattle.fold_program.specs.declared.FileKind.{FileKind}
use Rattle.fold_program.specs.declared.FileKind.TheVariants as file
use Rattle.fold_program.specs.Files.{suffix_of}
use Rattle.fold_program.specs.Parts.{fold_of}
use Rattle.fold_program.specs.Refusals.{program_refusal}
use Rattle.fold_files.specs.declared.fault.CostFileFault.{CostFileFault}
use Rattle.fold_files.specs.declared.fault.RelationFault.{RelationFault}
use Rattle.fold_files.specs.declared.fault.ReadFault.{ReadFault}
use Rattle.fold_files.specs.declared.fault.ReadFault.TheVariants as read
use Rattle.fold_files.specs.CostText.{parsed_costs}
use Rattle.fold_files.specs.RelationText.{parsed_relations}
use Rattle.fold_files.specs.Faults.{costs_fault, relations_fault}

-- the bytes of a file of at most so many
abbrev pub bytes_of : List File → List ℕ → FileKind → ℕ → Result (List ℕ) ReadFault
bytes_of files prefix kind most =
    elim (file_named files (prefix ++ suffix_of kind)) [
      | None ↦ Err (read.Shelf kind)
      | Some bytes ↦ cond (nat_lt most (length bytes)) (Err (read.TooLong kind)) (Ok bytes)
    ]

-- the numbers of rows and columns from and to which a matrix may have, and how large its entries may be
abbrev pub shaped : ℕ → ℕ → ℕ → ℕ → ℕ → Shape
shaped rows_from rows_to cols_from cols_to largest =
    record { rows_from = rows_from; rows_to = rows_to; cols_from = cols_from; cols_to = cols_to; largest = largest }

-- so many rows and columns, with entries of at most 2 ^ 62 in absolute value
abbrev pub exactly : ℕ → ℕ → Shape
exactly rows cols = shaped rows rows cols cols (2 ^ 62)

abbrev pub as_form : FileKind → Result Matrix MatFault → Result Matrix ReadFault
as_form kind (Ok m) = Ok m
as_form kind (Err f) = Err (read.Form kind f)

-- the matrix in a file
abbrev pub matrix_of : List File → List ℕ → FileKind → Shape → Result Matrix ReadFault
matrix_of files prefix kind shape =
    and_then (bytes_of files prefix kind (2 ^ 26)) (λ bytes. as_form kind (parsed_matrix shape bytes))

abbrev pub as_costs : Result (List Cost) CostFileFault → Result (List Cost) ReadFault
as_costs (Ok cs) = Ok cs
as_costs (Err f) = Err (costs_fault f)

-- the costs of n bricks of t columns in the cost file
abbrev pub costs_of : List File → List ℕ → ℕ → ℕ → Result (List Cost) ReadFault
costs_of files prefix n t =
    and_then (bytes_of files prefix file.Costs (2 ^ 26)) (λ bytes. as_costs (parsed_costs n t bytes))

abbrev pub as_relations : Result (List Relation) RelationFault → Result (List Relation) ReadFault
as_relations (Ok rs) = Ok rs
as_relations (Err f) = Err (relations_fault f)

-- the relations of r linking rows: those in their file where it is asked for, and else all are equations
abbrev pub relations_of : List File → List ℕ → Bool → ℕ → Result (List Relation) ReadFault
relations_of files prefix false r = Ok (replicate r Equal)
relations_of files prefix true r =
    and_then (bytes_of files prefix file.Relations (2 ^ 26)) (λ bytes. as_relations (parsed_relations r bytes))

-- the program, if it is not refused
abbrev pub as_program : Program → Result Program ReadFault
as_program p =
    elim (program_refusal p) [
      | None ↦ Ok p
      | Some r ↦ Err (read.Program r)
    ]

-- the program that the six files make, and a seventh where relations are asked for, or the first fault; each file has
-- the shape that those before it ask for
abbrev pub program_in : List File → List ℕ → Bool → Result Program ReadFault
program_in files prefix with_relations =
    and_then (matrix_of files prefix file.Link (shaped 0 16 1 32 (2 ^ 31 - 1))) (λ link.
    let t = link.cols in
    let r = length link.rows in
    and_then (matrix_of files prefix file.Brick (shaped 0 16 t t (2 ^ 31 - 1))) (λ brick.
    and_then (matrix_of files prefix file.Lower (shaped 1 10000 t t (2 ^ 62))) (λ lower.
    let n = length lower.rows in
    and_then (matrix_of files prefix file.Upper (exactly n t)) (λ upper.
    and_then (matrix_of files prefix file.Right (exactly 1 (r + n * length brick.rows))) (λ right.
    and_then (relations_of files prefix with_relations r) (λ relations.
    and_then (costs_of files prefix n t) (λ costs.
    as_program (fold_of link brick lower upper right relations costs))))))))

-- the point of the program in its file, a row for each brick
abbrev pub point_in : List File → List ℕ → Program → Result Matrix ReadFault
point_in files prefix p = matrix_of files prefix file.Point (exactly (length p.bricks) p.link.cols)

-- the matrix by itself in its file
abbrev pub plain_in : List File → List ℕ → Result Matrix ReadFault
plain_in files prefix = matrix_of files prefix file.Plain (shaped 0 16 1 32 (2 ^ 31 - 1))

-- the bytes of the certificate in its file, of which there are at most 2 ^ 27
abbrev pub certificate_in : List File → List ℕ → Result (List ℕ) ReadFault
certificate_in files prefix = bytes_of files prefix file.Cert (2 ^ 27)
