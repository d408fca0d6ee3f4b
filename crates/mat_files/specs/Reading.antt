-- Reading a text token by token: a reader takes what is left of the text to a value and what is left then, or to the
-- fault of the first token that is refused.
use Rattle.std.specs.Prelude.{◌≡◌, ℕ, zero, suc, ◌*◌, ◌^◌, ◌⊎◌, ℤ, pos, unsigned_abs, int_le, nat_le, ◌&&◌, List, []}
use Rattle.std.specs.Prelude.{◌∷◌, ◌++◌, cond, Some, None, Result, Ok, Err, MatchResult, bytes_eq, codes}
use Rattle.lattice_theory.specs.Matrices.{Matrix, rows_of}
use Rattle.mat_files.specs.declared.fault.FaultKind.{FaultKind}
use Rattle.mat_files.specs.declared.fault.FaultKind.TheVariants as kind
use Rattle.mat_files.specs.declared.fault.TokenFault.{TokenFault}
use Rattle.mat_files.specs.Tokens.{Token, Left, whole, number_of, count_of, and_then}

-- what a reader gives
abbrev pub Read : Type 0 → Type 0
Read A = Result (A × Left) TokenFault

-- the fault at a place
abbrev pub refused : {A : Type 0} → ℕ → FaultKind → Result A TokenFault
refused at kind = Err (record { at = at; kind = kind })

-- ---- what a token spells

-- nothing but this word
abbrev pub word_at : List ℕ → Token → Result (Unit {0}) TokenFault
word_at expected t = cond (bytes_eq t.text expected) (Ok tt) (refused t.at kind.Word)

-- a number of at most so much in absolute value
abbrev pub number_at : ℕ → Token → Result ℤ TokenFault
number_at largest t =
    cond (bytes_eq t.text (codes "*")) (refused t.at kind.NoBound)
    (elim (number_of t.text) [
      | None ↦ refused t.at kind.NotNumber
      | Some a ↦ cond (nat_le (unsigned_abs a) largest) (Ok a) (refused t.at kind.TooBig)
    ])

-- a number in this range, of at most 2 ^ 62 in absolute value
abbrev pub size_at : ℕ → ℕ → Token → Result ℕ TokenFault
size_at from to t =
    and_then (number_at (2 ^ 62) t) (λ a.
    cond (int_le (pos from) a && int_le a (pos to)) (Ok (unsigned_abs a)) (refused t.at (kind.Size a from to)))

-- a count in this range; outside it the fault is of the kind outside
abbrev pub count_at : ℕ → ℕ → FaultKind → Token → Result ℕ TokenFault
count_at from to outside t =
    elim (count_of t.text) [
      | None ↦ refused t.at kind.NotNumber
      | Some n ↦ cond (nat_le from n && nat_le n to) (Ok n) (refused t.at outside)
    ]

-- ---- readers

-- the first of these tokens, and the others
abbrev pub first_of : ℕ → List Token → Read Token
first_of end [] = refused end kind.EndsEarly
first_of end (t ∷ ts) = Ok (t, record { tokens = ts; end = end })

-- the next token
abbrev pub next_token : Left → Read Token
next_token left = first_of left.end left.tokens

-- what the next token spells
abbrev pub next_by : {A : Type 0} → (Token → Result A TokenFault) → Left → Read A
next_by spelled left = and_then (next_token left) (λ t. and_then (spelled t.0) (λ a. Ok (a, t.1)))

abbrev pub next_word : List ℕ → Left → Read (Unit {0})
next_word expected left = next_by (word_at expected) left

abbrev pub next_number : ℕ → Left → Read ℤ
next_number largest left = next_by (number_at largest) left

abbrev pub next_size : ℕ → ℕ → Left → Read ℕ
next_size from to left = next_by (size_at from to) left

abbrev pub next_count : ℕ → ℕ → FaultKind → Left → Read ℕ
next_count from to outside left = next_by (count_at from to outside) left

-- so many of what this reads, one after the other
abbrev pub repeated : {A : Type 0} → (Left → Read A) → ℕ → Left → Read (List A)
repeated read zero left = Ok ([], left)
repeated read (suc n) left =
    and_then (read left) (λ a. and_then (repeated read n a.1) (λ others. Ok (a.0 ∷ others.0, others.1)))

-- the entries of a matrix of so many rows and columns, row by row, each at most so much in absolute value
abbrev pub next_matrix : ℕ → ℕ → ℕ → Left → Read Matrix
next_matrix rows cols largest left =
    and_then (repeated (next_number largest) (rows * cols) left)
    (λ entries. Ok (record { cols = cols; rows = rows_of rows cols entries.0 }, entries.1))

-- ---- whole texts

-- none of these tokens is left
abbrev pub none_of : List Token → Result (Unit {0}) TokenFault
none_of [] = Ok tt
none_of (t ∷ ts) = refused t.at kind.Extra

-- what a reader gives of a whole text, of which nothing is left then
abbrev pub only : {A : Type 0} → (Left → Read A) → List ℕ → Result A TokenFault
only read bytes = and_then (read (whole bytes)) (λ a. and_then (none_of a.1.tokens) (λ u. Ok a.0))

-- ---- what code answers

-- the answer is what the reader gives, and that is left which the reader leaves
abbrev pub Gives : {A : Type 0} → Read A → Result A TokenFault → Left → Type 0
Gives read answer after = MatchResult answer (λ a. read ≡ Ok (a, after)) (λ f. read ≡ Err f)

-- it is the fault that reading gives, or memory ran out
abbrev pub IsTokenFault : {A : Type 0} → Result A TokenFault → TokenFault → Type 0
IsTokenFault read f = (f.kind ≡ kind.Memory) ⊎ (read ≡ Err f)

-- what is read stands behind what was there before
abbrev pub IsAdded : {A : Type 0} → Read (List A) → List A → List A → Left → Type 0
IsAdded {A = A} read before now after = (more : List A) × (read ≡ Ok (more, after)) × (now ≡ before ++ more)
