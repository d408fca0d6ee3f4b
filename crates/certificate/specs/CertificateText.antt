-- The text of a certificate, and what is read back from its tokens.
use Rattle.std.specs.Prelude.{◌≡◌, ℕ, zero, suc, ◌-◌, ◌*◌, ◌^◌, ◌⊎◌, ℤ, pos, nat_le, List, [], ◌∷◌, ◌++◌, map, length}
use Rattle.std.specs.Prelude.{flat_map, cond, Option, Some, None, Result, Ok, Err, bytes_eq, codes}
use Rattle.std.specs.Fmt.{decimal, signed_decimal}
use Rattle.std.specs.List.{join_with_byte}
use Rattle.lattice_theory.specs.Vectors.{Vector}
use Rattle.lattice_theory.specs.Matrices.{Matrix}
use Rattle.run_theory.specs.declared.Claim.{Claim}
use Rattle.run_theory.specs.declared.Claim.TheVariants as claim
use Rattle.run_theory.specs.Certificates.{Certificate, FoldPart, Table, table_of}
use Rattle.mat_files.specs.declared.fault.FaultKind.{FaultKind}
use Rattle.mat_files.specs.declared.fault.FaultKind.TheVariants as token
use Rattle.mat_files.specs.declared.fault.TokenFault.{TokenFault}
use Rattle.mat_files.specs.Tokens.{Token, Left, and_then}
use Rattle.mat_files.specs.Reading.{Read, refused, number_at, count_at, next_token, next_by, next_word, next_number}
use Rattle.mat_files.specs.Reading.{next_count, repeated, next_matrix, only}
use Rattle.mat_files.specs.MatrixText.{matrix_text}
use Rattle.certificate.specs.declared.fault.CertKind.{CertKind}
use Rattle.certificate.specs.declared.fault.CertKind.TheVariants as kind
use Rattle.certificate.specs.declared.fault.CertFault.{CertFault}

-- ---- printing

abbrev pub claim_text : Claim → List ℕ
claim_text claim.Optimal = codes "optimal"
claim_text (claim.InfeasibleBrick i) = codes "infeasible-brick " ++ decimal i
claim_text claim.InfeasibleLink = codes "infeasible-link"

-- an entry of a table
abbrev pub cell_text : Option ℤ → List ℕ
cell_text None = codes "none"
cell_text (Some a) = signed_decimal a

-- a row of a table: its entries with one space between them, and a line feed
abbrev pub cells_text : List (Option ℤ) → List ℕ
cells_text row = join_with_byte 32 (map cell_text row) ++ codes "\n"

-- a table: its numbers of rows and columns, and then each row on a line
abbrev pub table_text : Table → List ℕ
table_text t =
    decimal (length t.rows) ++ codes " " ++ decimal t.cols ++ codes "\n" ++ flat_map cells_text t.rows

-- the parts about the linking rows, where there are any
abbrev pub fold_text : Option FoldPart → List ℕ
fold_text None = []
fold_text (Some f) =
    codes "links\n" ++ matrix_text f.links ++ codes "bound " ++ decimal f.bound ++ codes "\nsums\n"
    ++ matrix_text f.sums ++ codes "potentials\n" ++ table_text f.potentials

-- the text of a certificate
abbrev pub certificate_text : Certificate → List ℕ
certificate_text c =
    codes "nfold-certificate 1\nclaim " ++ claim_text c.claim ++ codes "\npoint\n" ++ matrix_text c.point
    ++ codes "bricks\n" ++ matrix_text c.bricks ++ fold_text c.fold ++ codes "end\n"

-- ---- reading the parts

-- a number of rows or columns
abbrev pub next_size : ℕ → Left → Read ℕ
next_size most left = next_count 0 most token.TooMany left

-- this word, and then a matrix of at most so many rows and columns, with entries of at most so much in absolute value
abbrev pub next_part : List ℕ → ℕ → ℕ → ℕ → Left → Read Matrix
next_part word most_rows most_cols largest left =
    and_then (next_word word left) (λ a. and_then (next_size most_rows a.1) (λ rows.
    and_then (next_size most_cols rows.1) (λ cols. next_matrix rows.0 cols.0 largest cols.1)))

-- the bound
abbrev pub next_bound : Left → Read ℕ
next_bound left =
    and_then (next_word (codes "bound") left) (λ a. next_count 0 (2 ^ 62) token.TooBig a.1)

-- a row of sums of so many columns: the level, which is a count, and then the sum
abbrev pub next_sum : ℕ → Left → Read Vector
next_sum zero left = Ok ([], left)
next_sum (suc cols) left =
    and_then (next_count 0 (2 ^ 62) token.TooBig left) (λ level.
    and_then (repeated (next_number (2 ^ 47)) cols level.1) (λ v. Ok (pos level.0 ∷ v.0, v.1)))

-- the sums
abbrev pub next_sums : Left → Read Matrix
next_sums left =
    and_then (next_word (codes "sums") left) (λ a. and_then (next_size 20000 a.1) (λ rows.
    and_then (next_size 33 rows.1) (λ cols. and_then (repeated (next_sum cols.0) rows.0 cols.1) (λ sums.
    Ok (record { cols = cols.0; rows = sums.0 }, sums.1)))))

-- a potential: a number, or none
abbrev pub cell_at : Token → Result (Option ℤ) TokenFault
cell_at t = cond (bytes_eq t.text (codes "none")) (Ok None) (and_then (number_at (2 ^ 124) t) (λ a. Ok (Some a)))

-- the number of columns of a table of so many rows: at most 20,000, with at most 2 ^ 20 entries
abbrev pub width_at : ℕ → Token → Result ℕ TokenFault
width_at rows t =
    and_then (count_at 0 20000 token.TooMany t) (λ cols.
    cond (nat_le (rows * cols) (2 ^ 20)) (Ok cols) (refused t.at token.TooMany))

-- the potentials
abbrev pub next_potentials : Left → Read Table
next_potentials left =
    and_then (next_word (codes "potentials") left) (λ a. and_then (next_size 10001 a.1) (λ rows.
    and_then (next_by (width_at rows.0) rows.1) (λ cols. and_then (repeated (next_by cell_at) (rows.0 * cols.0) cols.1)
    (λ cells.
    Ok (table_of rows.0 cols.0 cells.0, cells.1)))))

-- the parts about the linking rows
abbrev pub next_fold : Left → Read FoldPart
next_fold left =
    and_then (next_part (codes "links") 2000 2016 (2 ^ 31 - 1) left) (λ links.
    and_then (next_bound links.1) (λ bound. and_then (next_sums bound.1) (λ sums.
    and_then (next_potentials sums.1) (λ potentials. Ok (
      record {
        links = links.0;
        bound = bound.0;
        sums = sums.0;
        potentials = potentials.0;
      },
      potentials.1,
    )))))

-- ---- reading the whole

-- the words of the first line, and the word before the claim
abbrev pub next_head : Left → Read (Unit {0})
next_head left =
    and_then (next_word (codes "nfold-certificate") left) (λ a.
    and_then (next_word (codes "1") a.1) (λ b. next_word (codes "claim") b.1))

-- what belongs to a claim whose word is this token
abbrev pub claim_after : Token → Left → Read Claim
claim_after t left =
    cond (bytes_eq t.text (codes "optimal")) (Ok (claim.Optimal, left))
    (cond (bytes_eq t.text (codes "infeasible-link")) (Ok (claim.InfeasibleLink, left))
    (cond (bytes_eq t.text (codes "infeasible-brick"))
    (and_then (next_count 0 10000 token.TooBig left) (λ i. Ok (claim.InfeasibleBrick i.0, i.1)))
    (refused t.at token.Word)))

-- a claim: its word, and what belongs to it
abbrev pub next_claim : Left → Read Claim
next_claim left = and_then (next_token left) (λ t. claim_after t.0 t.1)

-- the parts about the linking rows, where the claim is on all bricks
abbrev pub fold_after : Claim → Left → Read (Option FoldPart)
fold_after claim.Optimal left = and_then (next_fold left) (λ f. Ok (Some f.0, f.1))
fold_after (claim.InfeasibleBrick i) left = Ok (None, left)
fold_after claim.InfeasibleLink left = and_then (next_fold left) (λ f. Ok (Some f.0, f.1))

-- a certificate
abbrev pub next_certificate : Left → Read Certificate
next_certificate left =
    and_then (next_head left) (λ head.
    and_then (next_claim head.1) (λ claim.
    and_then (next_part (codes "point") 10000 32 (2 ^ 62) claim.1) (λ point.
    and_then (next_part (codes "bricks") 2000 48 (2 ^ 31 - 1) point.1) (λ bricks.
    and_then (fold_after claim.0 bricks.1) (λ fold.
    and_then (next_word (codes "end") fold.1) (λ last.
    Ok (record { claim = claim.0; point = point.0; bricks = bricks.0; fold = fold.0 }, last.1)))))))

-- what is wrong with a token of a certificate, which has no absent bounds
abbrev pub cert_kind : FaultKind → CertKind
cert_kind token.Word = kind.Word
cert_kind token.NotNumber = kind.NotNumber
cert_kind token.NoBound = kind.NotNumber
cert_kind token.TooBig = kind.TooBig
cert_kind token.TooMany = kind.TooMany
cert_kind (token.Size got from to) = kind.TooMany
cert_kind token.EndsEarly = kind.EndsEarly
cert_kind token.Extra = kind.Extra
cert_kind token.Memory = kind.Memory

abbrev pub cert_fault : TokenFault → CertFault
cert_fault f = record { at = f.at; kind = cert_kind f.kind }

-- the answer on a certificate
abbrev pub cert_answer : {A : Type 0} → Result A TokenFault → Result A CertFault
cert_answer (Ok a) = Ok a
cert_answer (Err f) = Err (cert_fault f)

-- the certificate that the bytes spell, or the fault of the first token that is refused
abbrev pub parsed_certificate : List ℕ → Result Certificate CertFault
parsed_certificate bytes = cert_answer (only next_certificate bytes)

-- it is the fault that reading gives, or memory ran out
abbrev pub IsCertFault : {A : Type 0} → Result A CertFault → CertFault → Type 0
IsCertFault parsed f = (f.kind ≡ kind.Memory) ⊎ (parsed ≡ Err f)
