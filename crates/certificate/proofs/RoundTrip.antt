-- What is printed of a certificate is read again.
use Rattle.std.proofs.Common.{◌≡◌, ℕ, suc, ◌*◌, ◌^◌, ◌<◌, ◌≤◌, ◌-◌, ℤ, pos, negsuc, unsigned_abs, true, false, not}
use Rattle.std.proofs.Common.{List, [], ◌∷◌, ◌++◌, length, get_or, flat_map, Option, Some, None, Ok, refl, ap, sym, ◌∙◌}
use Rattle.std.proofs.Common.{subst, append_assoc, arith, All, codes, inl, inr}
use Rattle.std.specs.Fmt.{decimal, signed_decimal}
use Rattle.std.specs.List.{list_all}
use Rattle.std.specs.Str.{bytes_eq}
use Rattle.std.proofs.lemmas.Bool.{leb-true, le-leb, cases_Bool}
use Rattle.std.proofs.lemmas.Int.{ints}
use Rattle.std.proofs.lemmas.List.Elements.{recursion_from_All}
use Rattle.std.proofs.lemmas.Slice.Eq.{bytes_eq-Decides}
use Rattle.lattice_theory.specs.Vectors.{Vector, IsBoundedRow}
use Rattle.lattice_theory.specs.BasisLimits.{IsNarrow}
use Rattle.lattice_theory.specs.Matrices.{Matrix}
use Rattle.run_theory.specs.declared.Claim.{Claim}
use Rattle.run_theory.specs.declared.Claim.TheVariants as claim
use Rattle.run_theory.specs.Certificates.{Certificate, FoldPart, Table, table_of}
use Rattle.mat_files.specs.declared.fault.FaultKind.TheVariants as token
use Rattle.mat_files.specs.Tokens.{is_white, Left, and_then, number_of}
use Rattle.mat_files.specs.Reading.{Read, number_at, next_word, next_by, next_number, next_count, repeated, next_matrix}
use Rattle.mat_files.specs.MatrixText.{row_text, matrix_text}
use Rattle.mat_files.proofs.WordLaws.{IsWord, word_of, first_word, printed_count, printed_number}
use Rattle.mat_files.proofs.PrintedLaws.{Reads, Reads-then, Reads-map, Reads-word, Reads-count, Reads-token, Reads-each}
use Rattle.mat_files.proofs.PrintedLaws.{Reads-lines, Reads-one_line, Reads-entries, IsPrintable, IsPrintableRow}
use Rattle.mat_files.proofs.PrintedLaws.{entry_printed, number_at-printed, count_at-printed, left_from, only-printed}
use Rattle.certificate.specs.CertificateText.{cell_text, cells_text, table_text, fold_text, claim_text}
use Rattle.certificate.specs.CertificateText.{certificate_text, next_size, next_part, next_bound, next_sum, next_sums}
use Rattle.certificate.specs.CertificateText.{cell_at, width_at, next_potentials, next_fold, next_head, next_claim}
use Rattle.certificate.specs.CertificateText.{claim_after, fold_after, next_certificate, cert_answer}
use Rattle.certificate.specs.CertificateText.{parsed_certificate}
use Rattle.certificate.specs.Readable.{IsSumRow, IsCell, IsWithin, IsWithinTable, IsReadablePart, IsNumbered, FitsClaim}
use Rattle.certificate.specs.Readable.{IsReadable}
use Rattle.certificate.proofs.TableLaws.{table_rows-all}

-- ---- words, and sizes

-- a fixed word and the white space after it
Reads-fixed : (word : List ℕ) (white : ℕ) → 0 < length word → list_all (λ b. not (is_white b)) word ≡ true
    → is_white white ≡ true → Reads (next_word word) (word ++ white ∷ []) tt
Reads-fixed word white some black space = Reads-word word white (word_of word some black) space

-- a number of rows or columns
Reads-size : (most white m : ℕ) → most < 10 ^ 64 → m ≤ most → is_white white ≡ true
    → Reads (next_size most) (decimal m ++ white ∷ []) m
Reads-size most white m below small space = Reads-count 0 most token.TooMany white m below (omega arith) small space

-- a word, two sizes, and what stands behind them
module _ {A : Type 0} (word : List ℕ) (most : ℕ) (cols_in : ℕ → Left → Read ℕ) (body_in : ℕ → ℕ → Left → Read A) where
  abbrev sized : Left → Read A
  sized left =
      and_then (next_size most left) (λ rows. and_then (cols_in rows.0 rows.1) (λ cols. body_in rows.0 cols.0 cols.1))

  Reads-sized : (text : List ℕ) (rows cols : ℕ) (body : List ℕ) (a : A)
      → text ≡ (decimal rows ++ 32 ∷ []) ++ ((decimal cols ++ 10 ∷ []) ++ body) → most < 10 ^ 64 → rows ≤ most
      → Reads (cols_in rows) (decimal cols ++ 10 ∷ []) cols → Reads (body_in rows cols) body a → Reads sized text a
  Reads-sized text rows cols body a is below few width reads =
      let row_word = decimal rows ++ 32 ∷ [] in
      let col_word = decimal cols ++ 10 ∷ [] in
      let from_cols = Reads-then (cols_in rows) (λ c left. body_in rows c left) col_word body cols a width reads in
      subst (λ t. Reads sized t a) (sym is)
      (Reads-then (next_size most) (λ r left. and_then (cols_in r left) (λ c. body_in r c.0 c.1)) row_word
      (col_word ++ body) rows a
      (Reads-size most 32 rows below few refl) from_cols)

  Reads-worded : (text : List ℕ) (rows cols : ℕ) (body : List ℕ) (a : A)
      → text ≡ (decimal rows ++ 32 ∷ []) ++ ((decimal cols ++ 10 ∷ []) ++ body) → IsWord word → most < 10 ^ 64
      → rows ≤ most
      → Reads (cols_in rows) (decimal cols ++ 10 ∷ []) cols → Reads (body_in rows cols) body a
      → Reads (λ left. and_then (next_word word left) (λ u. sized u.1)) ((word ++ 10 ∷ []) ++ text) a
  Reads-worded text rows cols body a is is_word below few width reads =
      Reads-then (next_word word) (λ u left. sized left) (word ++ 10 ∷ []) text tt a
      (Reads-word word 10 is_word refl) (Reads-sized text rows cols body a is below few width reads)

-- ---- matrices

-- numbers that are at most so much are below more
below_from : (m : Matrix) (largest : ℕ) → largest < 10 ^ 64 → All (λ row. All (λ a. unsigned_abs a ≤ largest) row)
    m.rows
    → All (λ row. All (λ a. unsigned_abs a < 10 ^ 64) row) m.rows
below_from m largest below small k d inside j e there =
    let at_most : unsigned_abs (get_or (get_or m.rows k d) j e) ≤ largest = small k d inside j e there in omega arith

-- a word on a line, and then a matrix
Reads-part : (word : List ℕ) (most_rows most_cols largest : ℕ) (m : Matrix) → IsWord word → most_rows < 10 ^ 64
    → most_cols < 10 ^ 64 → largest < 10 ^ 64 → IsWithin most_rows most_cols m
    → All (λ row. All (λ a. unsigned_abs a ≤ largest) row) m.rows
    → Reads (next_part word most_rows most_cols largest) ((word ++ 10 ∷ []) ++ matrix_text m) m
Reads-part word most_rows most_cols largest m is_word below_rows below_cols below within small =
    Reads-worded word most_rows (λ r left. next_size most_cols left) (λ r c left. next_matrix r c largest left)
    (matrix_text m)
    (length m.rows) m.cols (flat_map row_text m.rows) m (simp append_assoc) is_word below_rows within.rows
    (Reads-size most_cols 10 m.cols below_cols within.cols refl)
    (Reads-entries largest m within.width small (below_from m largest below small))

-- the part of the point
Reads-point : (m : Matrix) → IsWithin 10000 32 m → All IsBoundedRow m.rows
    → Reads (next_part (codes "point") 10000 32 (2 ^ 62)) (codes "point\n" ++ matrix_text m) m
Reads-point m within bounded =
    Reads-part (codes "point") 10000 32 (2 ^ 62) m (word_of _ (omega arith) refl) (omega arith) (omega arith)
    (omega arith) within
    (λ k d inside j e there. leb-true _ (2 ^ 62) (bounded k d inside j e there))

-- a part whose entries are narrow
Reads-narrow : (word : List ℕ) (most_rows most_cols : ℕ) (m : Matrix) → IsWord word → most_rows < 10 ^ 64
    → most_cols < 10 ^ 64
    → IsWithin most_rows most_cols m → All IsNarrow m.rows
    → Reads (next_part word most_rows most_cols (2 ^ 31 - 1)) ((word ++ 10 ∷ []) ++ matrix_text m) m
Reads-narrow word most_rows most_cols m is_word below_rows below_cols within narrow =
    Reads-part word most_rows most_cols (2 ^ 31 - 1) m is_word below_rows below_cols (omega arith) within
    (λ k d inside j e there. omega (arith, narrow k d inside j e there))

-- ---- sums

-- numbers on a line
Reads-numbers : (largest : ℕ) (v : Vector) → largest < 10 ^ 64 → All (λ a. unsigned_abs a ≤ largest) v
    → Reads (repeated (next_number largest) (length v)) (row_text v) v
Reads-numbers largest v below small =
    Reads-one_line (number_at largest) signed_decimal v
    (recursion_from_All (IsPrintable (number_at largest) signed_decimal) v (λ k d inside.
    let at_most : unsigned_abs (get_or v k d) ≤ largest = small k d inside in
    entry_printed largest (get_or v k d) (omega arith) at_most))

-- a row of sums
Reads-sum : (cols : ℕ) (row : Vector) → length row ≡ cols → IsSumRow row → Reads (next_sum cols) (row_text row) row
Reads-sum cols [] width limits =
    subst (λ n. Reads (next_sum n) (row_text []) []) width (λ end n rest. (suc n, refl))
Reads-sum cols (negsuc l ∷ v) width limits = absurd (let high = limits.0 in omega (arith, ints))
Reads-sum cols (pos l ∷ []) width limits =
    subst (λ n. Reads (next_sum n) (row_text (pos l ∷ [])) (pos l ∷ [])) width
    (Reads-map (next_count 0 (2 ^ 62) token.TooBig) (λ level. pos level ∷ []) (decimal l ++ 10 ∷ []) l
    (Reads-count 0 (2 ^ 62) token.TooBig 10 l (omega arith) (omega arith) limits.1 refl))
Reads-sum cols (pos l ∷ b ∷ v) width limits =
    let level = Reads-count 0 (2 ^ 62) token.TooBig 32 l (omega arith) (omega arith) limits.1 refl in
    let numbers = Reads-numbers (2 ^ 47) (b ∷ v) (omega arith) limits.2 in
    let text : row_text (pos l ∷ b ∷ v) ≡ (decimal l ++ 32 ∷ []) ++ row_text (b ∷ v) = simp append_assoc in
    let reads = Reads-then (next_count 0 (2 ^ 62) token.TooBig)
    (λ level left. and_then (repeated (next_number (2 ^ 47)) (length (b ∷ v)) left)
    (λ rest. Ok (pos level ∷ rest.0, rest.1)))
    (decimal l ++ 32 ∷ []) (row_text (b ∷ v)) l (pos l ∷ b ∷ v) level
    (Reads-map (repeated (next_number (2 ^ 47)) (length (b ∷ v))) (λ rest. pos l ∷ rest) (row_text (b ∷ v)) (b ∷ v)
    numbers) in
    subst (λ n. Reads (next_sum n) (row_text (pos l ∷ b ∷ v)) (pos l ∷ b ∷ v)) width
    (subst (λ t. Reads (next_sum (suc (length (b ∷ v)))) t (pos l ∷ b ∷ v)) (sym text) reads)

-- the part of the sums
Reads-sums : (m : Matrix) → IsWithin 20000 33 m → All IsSumRow m.rows
    → Reads next_sums (codes "sums\n" ++ matrix_text m) m
Reads-sums m within limits =
    let made : List Vector → Matrix = λ rows. record { cols = m.cols; rows = rows } in
    let each = recursion_from_All (λ row. Reads (next_sum m.cols) (row_text row) row) m.rows
    (λ k d inside. Reads-sum m.cols (get_or m.rows k d) (within.width k d inside) (limits k d inside)) in
    Reads-worded (codes "sums") 20000 (λ r left. next_size 33 left)
    (λ r c left. and_then (repeated (next_sum c) r left) (λ sums. Ok (record { cols = c; rows = sums.0 }, sums.1)))
    (matrix_text m) (length m.rows) m.cols (flat_map row_text m.rows) m (simp append_assoc)
    (word_of _ (omega arith) refl) (omega arith) within.rows
    (Reads-size 33 10 m.cols (omega arith) within.cols refl)
    (Reads-map (repeated (next_sum m.cols) (length m.rows)) made (flat_map row_text m.rows) m.rows
    (Reads-each (next_sum m.cols) row_text m.rows each))

-- ---- potentials

-- what spells a number is not the word none
no_none : (text : List ℕ) (a : ℤ) → number_of text ≡ Some a → bytes_eq text (codes "none") ≡ false
no_none text a spelled =
    elim (cases_Bool (bytes_eq text (codes "none"))) [
      | inl same ↦
          let none : number_of text ≡ None = ap number_of ((bytes_eq-Decides text (codes "none")).0 same) in absurd cc
      | inr differs ↦ differs
    ]

-- a potential within its limit is printed as a word from which it is made again
cell_printed : (cell : Option ℤ) → IsCell cell → IsPrintable cell_at cell_text cell
cell_printed None limit = record { is_word = word_of _ (omega arith) refl; is_made = λ n. refl }
cell_printed (Some a) limit =
    let spells = printed_number a (omega arith) in
    record {
      is_word = spells.word;
      is_made = λ n.
          rw (no_none (signed_decimal a) a spells.spelled, number_at-printed (2 ^ 124) n a (omega arith) limit) refl;
    }

-- a number of columns
Reads-width : (rows cols : ℕ) → cols ≤ 20000 → rows * cols ≤ 2 ^ 20
    → Reads (next_by (width_at rows)) (decimal cols ++ 10 ∷ []) cols
Reads-width rows cols few product =
    Reads-token (width_at rows) 10 (decimal cols) cols (printed_count cols (omega arith)).word refl (λ n.
    rw (count_at-printed 0 20000 token.TooMany n cols (omega arith) (omega arith) few, le-leb _ _ product) refl)

-- the part of the potentials
Reads-potentials : (t : Table) → IsWithinTable t → Reads next_potentials (codes "potentials\n" ++ table_text t) t
Reads-potentials t within =
    let r = length t.rows in
    let all = flat_map (λ row. row) t.rows in
    let cells = recursion_from_All (IsPrintableRow cell_at cell_text t.cols) t.rows (λ k d inside. record {
      width = within.width k d inside;
      entries = recursion_from_All (IsPrintable cell_at cell_text) (get_or t.rows k d)
          (λ j e there. cell_printed (get_or (get_or t.rows k d) j e) (within.cells k d inside j e there));
    }) in
    let is : table_of r t.cols all ≡ t =
    ap (λ (rows : List (List (Option ℤ))). record { cols = t.cols; rows = rows })
    (table_rows-all t.rows t.cols (recursion_from_All (λ row. length row ≡ t.cols) t.rows within.width)) in
    let read = Reads-map (repeated (next_by cell_at) (r * t.cols)) (table_of r t.cols) (flat_map cells_text t.rows) all
    (Reads-lines cell_at cell_text t.rows t.cols cells) in
    let body : ℕ → ℕ → Left → Read Table = λ rows cols left.
    and_then (repeated (next_by cell_at) (rows * cols) left) (λ cells. Ok (table_of rows cols cells.0, cells.1)) in
    Reads-worded (codes "potentials") 10001 (λ rows left. next_by (width_at rows) left) body (table_text t) r t.cols
    (flat_map cells_text t.rows) t (simp append_assoc) (word_of _ (omega arith) refl) (omega arith) within.rows
    (Reads-width r t.cols within.cols within.product)
    (subst (Reads (body r t.cols) (flat_map cells_text t.rows)) is read)

-- ---- the parts about the linking rows

-- the bound
Reads-bound : (n : ℕ) → n ≤ 2 ^ 62 → Reads next_bound ((codes "bound ") ++ (decimal n ++ 10 ∷ [])) n
Reads-bound n small =
    Reads-then (next_word (codes "bound")) (λ u left. next_count 0 (2 ^ 62) token.TooBig left) (codes "bound ")
    (decimal n ++ 10 ∷ []) tt n
    (Reads-fixed (codes "bound") 32 (omega arith) refl refl)
    (Reads-count 0 (2 ^ 62) token.TooBig 10 n (omega arith) (omega arith) small refl)

-- the pieces of the text, each with the white space after it
regroup_fold : (links bound_word bound sums_word sums potentials_word potentials : List ℕ)
    → (((((links ++ bound_word) ++ bound) ++ (10 ∷ [] ++ sums_word)) ++ sums) ++ potentials_word) ++ potentials
    ≡ links ++ ((bound_word ++ (bound ++ 10 ∷ [])) ++ ((sums_word ++ sums) ++ (potentials_word ++ potentials)))
regroup_fold links bound_word bound sums_word sums potentials_word potentials = simp append_assoc

module _ (f : FoldPart) where
  -- what belongs to the parts, one after the other
  abbrev after_links : Matrix → Left → Read FoldPart
  after_links links left =
      and_then (next_bound left) (λ bound. and_then (next_sums bound.1) (λ sums.
      and_then (next_potentials sums.1) (λ potentials. Ok (
        record {
          links = links;
          bound = bound.0;
          sums = sums.0;
          potentials = potentials.0;
        },
        potentials.1,
      ))))

  abbrev after_bound : ℕ → Left → Read FoldPart
  after_bound bound left =
      and_then (next_sums left) (λ sums. and_then (next_potentials sums.1) (λ potentials. Ok (
        record {
          links = f.links;
          bound = bound;
          sums = sums.0;
          potentials = potentials.0;
        },
        potentials.1,
      )))

  abbrev after_sums : Matrix → Left → Read FoldPart
  after_sums sums left =
      and_then (next_potentials left) (λ potentials. Ok (
        record {
          links = f.links;
          bound = f.bound;
          sums = sums;
          potentials = potentials.0;
        },
        potentials.1,
      ))

  Reads-fold : IsReadablePart f → Reads next_fold (fold_text (Some f)) f
  Reads-fold readable =
      let links_text = codes "links\n" ++ matrix_text f.links in
      let bound_text = codes "bound " ++ (decimal f.bound ++ 10 ∷ []) in
      let sums_text = codes "sums\n" ++ matrix_text f.sums in
      let potentials_text = codes "potentials\n" ++ table_text f.potentials in
      let text : fold_text (Some f) ≡ links_text ++ (bound_text ++ (sums_text ++ potentials_text)) =
      regroup_fold links_text (codes "bound ") (decimal f.bound) (codes "sums\n") (matrix_text f.sums)
      (codes "potentials\n")
      (table_text f.potentials) in
      let made : Table → FoldPart = λ t. record { links = f.links; bound = f.bound; sums = f.sums; potentials = t } in
      let potentials = Reads-map next_potentials made potentials_text f.potentials
      (Reads-potentials f.potentials readable.potentials) in
      let sums = Reads-then next_sums after_sums sums_text potentials_text f.sums f
      (Reads-sums f.sums readable.sums readable.sum_rows)
      potentials in
      let bound = Reads-then next_bound after_bound bound_text (sums_text ++ potentials_text) f.bound f
      (Reads-bound f.bound readable.bound)
      sums in
      let links = Reads-narrow (codes "links") 2000 2016 f.links (word_of _ (omega arith) refl) (omega arith)
      (omega arith) readable.links
      readable.narrow in
      subst (λ t. Reads next_fold t f) (sym text)
      (Reads-then (next_part (codes "links") 2000 2016 (2 ^ 31 - 1)) after_links links_text
      (bound_text ++ (sums_text ++ potentials_text))
      f.links f links bound)

-- the parts about the linking rows, where the claim wants them
Reads-fold_after : (c : Claim) (fold : Option FoldPart) → FitsClaim c fold → Reads (fold_after c) (fold_text fold) fold
Reads-fold_after claim.Optimal None fits = absurd fits
Reads-fold_after claim.InfeasibleLink None fits = absurd fits
Reads-fold_after (claim.InfeasibleBrick i) None fits = λ end n rest. (n, refl)
Reads-fold_after claim.Optimal (Some f) fits = Reads-map next_fold Some (fold_text (Some f)) f (Reads-fold f fits.1)
Reads-fold_after claim.InfeasibleLink (Some f) fits = Reads-map next_fold Some (fold_text (Some f)) f
    (Reads-fold f fits.1)
Reads-fold_after (claim.InfeasibleBrick i) (Some f) fits = absurd fits.0

-- ---- the words and the claim

-- the first words
Reads-head : Reads next_head (codes "nfold-certificate 1\nclaim ") tt
Reads-head =
    let name = Reads-fixed (codes "nfold-certificate") 32 (omega arith) refl refl in
    let one = Reads-fixed (codes "1") 10 (omega arith) refl refl in
    let claims = Reads-fixed (codes "claim") 32 (omega arith) refl refl in
    Reads-then (next_word (codes "nfold-certificate")) (λ a left. and_then (next_word (codes "1") left)
    (λ b. next_word (codes "claim") b.1))
    (codes "nfold-certificate ") (codes "1\nclaim ") tt tt name
    (Reads-then (next_word (codes "1")) (λ a left. next_word (codes "claim") left) (codes "1\n") (codes "claim ") tt tt
    one claims)

-- a claim that is a word alone
Reads-plain : (word : List ℕ) (c : Claim) → IsWord word
    → ((n : ℕ) (left : Left) → claim_after (record { at = n; text = word }) left ≡ Ok (c, left))
    → Reads next_claim (word ++ 10 ∷ []) c
Reads-plain word c is_word is end n rest =
    let first = first_word word n 10 rest is_word refl in
    let whole : (word ++ 10 ∷ []) ++ rest ≡ word ++ 10 ∷ rest = append_assoc word (10 ∷ []) rest in
    (first.0, rw (whole, first.1) (is n (left_from end first.0 rest)))

-- a claim that is a word and a brick's number
abbrev brick_after : Left → Read Claim
brick_after left = and_then (next_count 0 10000 token.TooBig left) (λ i. Ok (claim.InfeasibleBrick i.0, i.1))

Reads-brick : (word : List ℕ) (i : ℕ) → i ≤ 10000 → IsWord word
    → ((n : ℕ) (left : Left) → claim_after (record { at = n; text = word }) left ≡ brick_after left)
    → Reads next_claim (((word ++ 32 ∷ []) ++ decimal i) ++ 10 ∷ []) (claim.InfeasibleBrick i)
Reads-brick word i small is_word is end n rest =
    let digits = decimal i ++ 10 ∷ [] in
    let number = Reads-map (next_count 0 10000 token.TooBig) claim.InfeasibleBrick digits i
    (Reads-count 0 10000 token.TooBig 10 i (omega arith) (omega arith) small refl) in
    let first = first_word word n 32 (digits ++ rest) is_word refl in
    let last = number end first.0 rest in
    let whole : (((word ++ 32 ∷ []) ++ decimal i) ++ 10 ∷ []) ++ rest ≡ word ++ 32 ∷ (digits ++ rest) = simp
    append_assoc in
    (last.0, rw (whole, first.1) (is n (left_from end first.0 (digits ++ rest)) ∙ last.1))

Reads-claim : (c : Claim) → IsNumbered c → Reads next_claim (claim_text c ++ 10 ∷ []) c
Reads-claim claim.Optimal numbered = Reads-plain (codes "optimal") claim.Optimal (word_of _ (omega arith) refl)
    (λ n left. refl)
Reads-claim claim.InfeasibleLink numbered =
    Reads-plain (codes "infeasible-link") claim.InfeasibleLink (word_of _ (omega arith) refl) (λ n left. refl)
Reads-claim (claim.InfeasibleBrick i) numbered =
    Reads-brick (codes "infeasible-brick") i numbered (word_of _ (omega arith) refl) (λ n left. refl)

-- a claim that its parts fit is numbered
numbered : (c : Claim) (fold : Option FoldPart) → FitsClaim c fold → IsNumbered c
numbered claim.Optimal fold fits = tt
numbered claim.InfeasibleLink fold fits = tt
numbered (claim.InfeasibleBrick i) None fits = fits
numbered (claim.InfeasibleBrick i) (Some f) fits = absurd fits.0

-- ---- the whole

-- the pieces of a text, each with the white space after it
regroup : (head word point_word point bricks_word bricks fold last : List ℕ)
    → ((((((head ++ word) ++ (10 ∷ [] ++ point_word)) ++ point) ++ bricks_word) ++ bricks) ++ fold) ++ last
    ≡ head ++ ((word ++ 10 ∷ []) ++ ((point_word ++ point) ++ ((bricks_word ++ bricks) ++ (fold ++ last))))
regroup head word point_word point bricks_word bricks fold last = simp append_assoc

module _ (c : Certificate) (readable : IsReadable c) where
  -- what belongs to the parts, one after the other
  abbrev after_fold : Option FoldPart → Left → Read Certificate
  after_fold fold left =
      and_then (next_word (codes "end") left) (λ last.
      Ok (record { claim = c.claim; point = c.point; bricks = c.bricks; fold = fold }, last.1))

  abbrev after_bricks : Matrix → Left → Read Certificate
  after_bricks bricks left =
      and_then (fold_after c.claim left) (λ fold. and_then (next_word (codes "end") fold.1) (λ last.
      Ok (record { claim = c.claim; point = c.point; bricks = bricks; fold = fold.0 }, last.1)))

  abbrev after_point : Matrix → Left → Read Certificate
  after_point point left =
      and_then (next_part (codes "bricks") 2000 48 (2 ^ 31 - 1) left) (λ bricks.
      and_then (fold_after c.claim bricks.1) (λ fold. and_then (next_word (codes "end") fold.1) (λ last.
      Ok (record { claim = c.claim; point = point; bricks = bricks.0; fold = fold.0 }, last.1))))

  abbrev after_claim : Claim → Left → Read Certificate
  after_claim claim left =
      and_then (next_part (codes "point") 10000 32 (2 ^ 62) left) (λ point.
      and_then (next_part (codes "bricks") 2000 48 (2 ^ 31 - 1) point.1) (λ bricks.
      and_then (fold_after claim bricks.1) (λ fold. and_then (next_word (codes "end") fold.1) (λ last.
      Ok (record { claim = claim; point = point.0; bricks = bricks.0; fold = fold.0 }, last.1)))))

  Reads-certificate : Reads next_certificate (certificate_text c) c
  Reads-certificate =
      let head_text = codes "nfold-certificate 1\nclaim " in
      let point_text = codes "point\n" ++ matrix_text c.point in
      let bricks_text = codes "bricks\n" ++ matrix_text c.bricks in
      let rest_of_bricks = fold_text c.fold ++ codes "end\n" in
      let rest_of_point = bricks_text ++ rest_of_bricks in
      let rest_of_claim = point_text ++ rest_of_point in
      let claim_line = claim_text c.claim ++ 10 ∷ [] in
      let text : certificate_text c ≡ head_text ++ (claim_line ++ rest_of_claim) =
      regroup head_text (claim_text c.claim) (codes "point\n") (matrix_text c.point) (codes "bricks\n")
      (matrix_text c.bricks)
      (fold_text c.fold) (codes "end\n") in
      let last = Reads-map (next_word (codes "end")) (λ u. c) (codes "end\n") tt
      (Reads-fixed (codes "end") 10 (omega arith) refl refl) in
      let fold = Reads-then (fold_after c.claim) after_fold (fold_text c.fold) (codes "end\n") c.fold c
      (Reads-fold_after c.claim c.fold readable.parts) last in
      let bricks = Reads-then (next_part (codes "bricks") 2000 48 (2 ^ 31 - 1)) after_bricks bricks_text rest_of_bricks
      c.bricks c
      (Reads-narrow (codes "bricks") 2000 48 c.bricks (word_of _ (omega arith) refl) (omega arith) (omega arith)
      readable.bricks readable.narrow)
      fold in
      let point = Reads-then (next_part (codes "point") 10000 32 (2 ^ 62)) after_point point_text rest_of_point c.point
      c
      (Reads-point c.point readable.point readable.bounded) bricks in
      let claims = Reads-then next_claim after_claim claim_line rest_of_claim c.claim c
      (Reads-claim c.claim (numbered c.claim c.fold readable.parts)) point in
      subst (λ t. Reads next_certificate t c) (sym text)
      (Reads-then next_head (λ u left. and_then (next_claim left) (λ claim. after_claim claim.0 claim.1)) head_text
      (claim_line ++ rest_of_claim) tt c Reads-head claims)

  -- what is printed of a certificate that can be read is read as that certificate
  pub parsed_certificate-text : parsed_certificate (certificate_text c) ≡ Ok c
  parsed_certificate-text = ap cert_answer (only-printed next_certificate (certificate_text c) c Reads-certificate)
