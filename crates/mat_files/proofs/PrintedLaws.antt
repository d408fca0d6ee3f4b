-- What is printed is read again, wherever it stands: words, numbers, lines and matrices. The crates above may cite this
-- file.
use Rattle.std.proofs.Common.{◌≡◌, ℕ, suc, ◌+◌, ◌*◌, ◌^◌, ◌<◌, ◌≤◌, ℤ, pos, unsigned_abs, true, List, [], ◌∷◌, ◌++◌}
use Rattle.std.proofs.Common.{length, flat_map, Result, Ok, All, get_or, refl, ap, sym, ◌∙◌, subst, append_assoc, arith}
use Rattle.std.specs.Fmt.{decimal, signed_decimal}
use Rattle.std.specs.List.{AllByRecursion}
use Rattle.std.proofs.lemmas.Bool.{le-leb}
use Rattle.std.proofs.lemmas.List.{take_at, drop_at, append-nil}
use Rattle.std.proofs.lemmas.List.Elements.{recursion_from_All}
use Rattle.std.proofs.lemmas.Slice.Eq.{bytes_eq-Decides}
use Rattle.lattice_theory.specs.Vectors.{Vector}
use Rattle.lattice_theory.specs.Matrices.{Matrix, rows_of}
use Rattle.mat_files.specs.declared.fault.FaultKind.{FaultKind}
use Rattle.mat_files.specs.declared.fault.TokenFault.{TokenFault}
use Rattle.mat_files.specs.Tokens.{is_white, Token, Left, tokens_from, and_then}
use Rattle.mat_files.specs.Reading.{Read, word_at, number_at, size_at, count_at, next_by, next_word, next_number}
use Rattle.mat_files.specs.Reading.{next_size, next_count, repeated, next_matrix, none_of, only}
use Rattle.mat_files.specs.MatrixText.{row_text}
use Rattle.mat_files.proofs.PrintingLaws.{line}
use Rattle.mat_files.proofs.WordLaws.{IsWord, first_word, printed_count, printed_number}

-- what is left where these bytes stand at place n, in a text that ends there
abbrev pub left_from : ℕ → ℕ → List ℕ → Left
left_from end n bytes = record { tokens = tokens_from n bytes; end = end }

-- wherever the text stands, reading gives this, and goes on behind the text
abbrev pub Reads : {A : Type 0} → (Left → Read A) → List ℕ → A → Type 0
Reads read text a =
    (end n : ℕ) (rest : List ℕ) → (k : ℕ) × (read (left_from end n (text ++ rest)) ≡ Ok (a, left_from end k rest))

-- a text is all that is read
pub only-printed : {A : Type 0} (read : Left → Read A) (text : List ℕ) (a : A) → Reads read text a
    → only read text ≡ Ok a
only-printed {A = A} read text a reads =
    let last : Read A → Result A TokenFault = λ r. and_then r (λ x. and_then (none_of x.1.tokens) (λ u. Ok x.0)) in
    let all = reads (length text) 0 [] in
    ap (λ bytes. last (read (left_from (length text) 0 bytes))) (sym (append-nil text)) ∙ ap last all.1

-- ---- the one, and then the other

module _ {A B : Type 0} where
  pub Reads-then : (first : Left → Read A) (next : A → Left → Read B) (text more : List ℕ) (a : A) (b : B)
      → Reads first text a → Reads (next a) more b
      → Reads (λ left. and_then (first left) (λ x. next x.0 x.1)) (text ++ more) b
  Reads-then first next text more a b here there end n rest =
      let one = here end n (more ++ rest) in
      let two = there end one.0 rest in
      let whole : (text ++ more) ++ rest ≡ text ++ (more ++ rest) = append_assoc text more rest in
      (two.0, rw (whole, one.1) two.1)

  -- what is made of what is read
  pub Reads-map : (read : Left → Read A) (f : A → B) (text : List ℕ) (a : A) → Reads read text a
      → Reads (λ left. and_then (read left) (λ x. Ok (f x.0, x.1))) text (f a)
  Reads-map read f text a here end n rest = let one = here end n rest in (one.0, rw one.1 refl)

-- ---- words and numbers

-- a word, with white space after it, of which this is made
pub Reads-token : {A : Type 0} (spelled : Token → Result A TokenFault) (white : ℕ) (text : List ℕ) (a : A) → IsWord text
    → is_white white ≡ true → ((n : ℕ) → spelled (record { at = n; text = text }) ≡ Ok a)
    → Reads (next_by spelled) (text ++ white ∷ []) a
Reads-token spelled white text a word space is end n rest =
    let whole : (text ++ white ∷ []) ++ rest ≡ text ++ white ∷ rest = append_assoc text (white ∷ []) rest in
    let first = first_word text n white rest word space in
    (first.0, rw (whole, first.1, is n) refl)

-- a fixed word
pub Reads-word : (text : List ℕ) (white : ℕ) → IsWord text → is_white white ≡ true
    → Reads (next_word text) (text ++ white ∷ []) tt
Reads-word text white word space =
    Reads-token (word_at text) white text tt word space (λ n. rw ((bytes_eq-Decides text text).1 refl) refl)

-- what a printed count is read as
pub count_at-printed : (from to : ℕ) (outside : FaultKind) (n m : ℕ) → m < 10 ^ 64 → from ≤ m → m ≤ to
    → count_at from to outside (record { at = n; text = decimal m }) ≡ Ok m
count_at-printed from to outside n m below low high =
    rw (count_at, (printed_count m below).spelled, le-leb _ _ low, le-leb _ _ high) refl

-- a printed count
pub Reads-count : (from to : ℕ) (outside : FaultKind) (white m : ℕ) → to < 10 ^ 64 → from ≤ m → m ≤ to
    → is_white white ≡ true → Reads (next_count from to outside) (decimal m ++ white ∷ []) m
Reads-count from to outside white m below low high space =
    Reads-token (count_at from to outside) white (decimal m) m (printed_count m (omega arith)).word space
    (λ n. count_at-printed from to outside n m (omega arith) low high)

-- what a printed number is read as
pub number_at-printed : (largest n : ℕ) (a : ℤ) → unsigned_abs a < 10 ^ 64 → unsigned_abs a ≤ largest
    → number_at largest (record { at = n; text = signed_decimal a }) ≡ Ok a
number_at-printed largest n a below small =
    let spells = printed_number a below in rw (spells.no_star, spells.spelled, le-leb _ _ small) refl

-- a printed number
pub Reads-number : (largest white : ℕ) (a : ℤ) → unsigned_abs a < 10 ^ 64 → unsigned_abs a ≤ largest
    → is_white white ≡ true
    → Reads (next_number largest) (signed_decimal a ++ white ∷ []) a
Reads-number largest white a below small space =
    Reads-token (number_at largest) white (signed_decimal a) a (printed_number a below).word space
    (λ n. number_at-printed largest n a below small)

-- a printed number of rows or columns
pub Reads-size : (from to white m : ℕ) → from ≤ m → m ≤ to → m ≤ 2 ^ 62 → is_white white ≡ true
    → Reads (next_size from to) (decimal m ++ white ∷ []) m
Reads-size from to white m low high small space =
    Reads-token (size_at from to) white (decimal m) m (printed_number (pos m) (omega arith)).word space
    (λ n. rw (number_at-printed (2 ^ 62) n (pos m) (omega arith) small, le-leb _ _ low, le-leb _ _ high) refl)

-- ---- the same again and again

-- one more
pub Reads-more : {A : Type 0} (read : Left → Read A) (many : ℕ) (text more : List ℕ) (a : A) (others : List A)
    → Reads read text a → Reads (repeated read many) more others
    → Reads (repeated read (suc many)) (text ++ more) (a ∷ others)
Reads-more read many text more a others here there =
    Reads-then read (λ x left. and_then (repeated read many left) (λ rest. Ok (x ∷ rest.0, rest.1))) text more a
    (a ∷ others) here (Reads-map (repeated read many) (λ rest. a ∷ rest) more others there)

-- each in a text of its own
pub Reads-each : {A : Type 0} (read : Left → Read A) (text : A → List ℕ) (items : List A)
    → AllByRecursion (λ a. Reads read (text a) a) items
    → Reads (repeated read (length items)) (flat_map text items) items
Reads-each read text [] each = λ end n rest. (n, refl)
Reads-each read text (a ∷ items) each =
    Reads-more read (length items) (text a) (flat_map text items) a items each.0 (Reads-each read text items each.1)

-- ---- lines: words with one space between them, and a line feed

module _ {A : Type 0} (spelled : Token → Result A TokenFault) (word : A → List ℕ) where
  -- what is printed as a word from which it is made again
  pub record IsPrintable (a : A) : Type 0 where
    pub is_word : IsWord (word a)
    pub is_made : (n : ℕ) → spelled (record { at = n; text = word a }) ≡ Ok a

  -- so many things
  abbrev pub things : ℕ → Left → Read (List A)
  things many left = repeated (next_by spelled) many left

  -- a line, and what stands behind it
  pub Reads-line : (v : List A) (many total : ℕ) (more : List ℕ) (others : List A)
      → AllByRecursion IsPrintable v → total ≡ length v + many
      → Reads (things many) more others → Reads (things total) (line word v ++ more) (v ++ others)
  Reads-line [] many total more others fits sum reads =
      let same : total ≡ many = omega arith in
      rw same (λ end n rest. reads end (suc n) rest)
  Reads-line (a ∷ []) many total more others fits sum reads =
      let same : total ≡ suc many = omega arith in
      rw same (Reads-more (next_by spelled) many (word a ++ 10 ∷ []) more a others
      (Reads-token spelled 10 (word a) a fits.0.is_word refl fits.0.is_made) reads)
  Reads-line (a ∷ b ∷ v) many total more others fits sum reads =
      let same : total ≡ suc (length (b ∷ v) + many) = omega arith in
      let behind = line word (b ∷ v) ++ more in
      let text : line word (a ∷ b ∷ v) ++ more ≡ (word a ++ 32 ∷ []) ++ behind = simp append_assoc in
      rw (same, text) (Reads-more (next_by spelled) (length (b ∷ v) + many) (word a ++ 32 ∷ []) behind
      a ((b ∷ v) ++ others) (Reads-token spelled 32 (word a) a fits.0.is_word refl fits.0.is_made)
      (Reads-line (b ∷ v) many (length (b ∷ v) + many) more others fits.1 refl reads))

  -- a line alone
  pub Reads-one_line : (v : List A) → AllByRecursion IsPrintable v → Reads (things (length v)) (line word v) v
  Reads-one_line v fits =
      let all : length v ≡ length v + 0 = omega arith in
      let none : Reads (things 0) [] [] = λ end n rest. (n, refl) in
      subst (Reads (things (length v)) (line word v)) (append-nil v)
      (subst (λ t. Reads (things (length v)) t (v ++ [])) (append-nil (line word v))
      (Reads-line v 0 (length v) [] [] fits all none))

  -- a row of so many of them
  pub record IsPrintableRow (cols : ℕ) (row : List A) : Type 0 where
    pub width : length row ≡ cols
    pub entries : AllByRecursion IsPrintable row

  -- all rows
  pub Reads-lines : (rows : List (List A)) (cols : ℕ) → AllByRecursion (IsPrintableRow cols) rows
      → Reads (things (length rows * cols)) (flat_map (line word) rows) (flat_map (λ row. row) rows)
  Reads-lines [] cols fits = let none : 0 * cols ≡ 0 = omega arith in rw none (λ end n rest. (n, refl))
  Reads-lines (row ∷ rows) cols fits =
      let sum : suc (length rows) * cols ≡ length row + length rows * cols = omega (arith, fits.0.width) in
      Reads-line row (length rows * cols) (suc (length rows) * cols) (flat_map (line word) rows)
      (flat_map (λ r. r) rows)
      fits.0.entries sum (Reads-lines rows cols fits.1)

-- ---- matrices

-- an entry that is not too large is printed as a word from which it is made again
pub entry_printed : (largest : ℕ) (a : ℤ) → unsigned_abs a < 10 ^ 64 → unsigned_abs a ≤ largest
    → IsPrintable (number_at largest) signed_decimal a
entry_printed largest a below small = record {
  is_word = (printed_number a below).word;
  is_made = λ n. number_at-printed largest n a below small;
}

-- the rows of a matrix whose entries are not too large
rows_printed : (largest : ℕ) (m : Matrix) → All (λ row. length row ≡ m.cols) m.rows
    → All (λ row. All (λ a. unsigned_abs a ≤ largest) row) m.rows
    → All (λ row. All (λ a. unsigned_abs a < 10 ^ 64) row) m.rows
    → AllByRecursion (IsPrintableRow (number_at largest) signed_decimal m.cols) m.rows
rows_printed largest m width small below =
    recursion_from_All (IsPrintableRow (number_at largest) signed_decimal m.cols) m.rows (λ k d inside. record {
      width = width k d inside;
      entries = recursion_from_All (IsPrintable (number_at largest) signed_decimal) (get_or m.rows k d) (λ j e there.
          entry_printed largest (get_or (get_or m.rows k d) j e) (below k d inside j e there)
          (small k d inside j e there));
    })

-- the rows of all entries are the rows
pub rows_of-all : (rows : List Vector) (cols : ℕ) → AllByRecursion (λ row. length row ≡ cols) rows
    → rows_of (length rows) cols (flat_map (λ row. row) rows) ≡ rows
rows_of-all [] cols width = refl
rows_of-all (row ∷ rows) cols width =
    let front = take_at row (flat_map (λ r. r) rows) cols width.0 in
    let after = drop_at row (flat_map (λ r. r) rows) cols width.0 in
    rw (front, after, rows_of-all rows cols width.1) refl

-- the entries of a matrix, row by row
pub Reads-entries : (largest : ℕ) (m : Matrix) → All (λ row. length row ≡ m.cols) m.rows
    → All (λ row. All (λ a. unsigned_abs a ≤ largest) row) m.rows
    → All (λ row. All (λ a. unsigned_abs a < 10 ^ 64) row) m.rows
    → Reads (next_matrix (length m.rows) m.cols largest) (flat_map row_text m.rows) m
Reads-entries largest m width small below =
    let made : Vector → Matrix = λ entries. record { cols = m.cols; rows = rows_of (length m.rows) m.cols entries } in
    let read = Reads-lines (number_at largest) signed_decimal m.rows m.cols
    (rows_printed largest m width small below) in
    let is : made (flat_map (λ row. row) m.rows) ≡ m =
    ap (λ (rs : List Vector). record { cols = m.cols; rows = rs })
    (rows_of-all m.rows m.cols (recursion_from_All (λ row. length row ≡ m.cols) m.rows width)) in
    subst (Reads (next_matrix (length m.rows) m.cols largest) (flat_map row_text m.rows)) is
    (Reads-map (repeated (next_number largest) (length m.rows * m.cols)) made (flat_map row_text m.rows)
    (flat_map (λ row. row) m.rows) read)
