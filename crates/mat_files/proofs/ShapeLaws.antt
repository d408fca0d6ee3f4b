-- What is read is as small and as many as was asked for. The crates above may cite this file.
use Rattle.std.proofs.Common.{◌≡◌, ℕ, zero, suc, ◌*◌, ◌^◌, ◌≤◌, ℤ, pos, negsuc, unsigned_abs, Bool, true, false, ◌&&◌}
use Rattle.std.proofs.Common.{leb, nat_le, int_le, cond, List, [], ◌++◌, length, take, drop, Option, Some, None, Result}
use Rattle.std.proofs.Common.{Ok, Err, All, refl, ap, subst, ◌∙◌, sym, arith, codes}
use Rattle.std.specs.Str.{bytes_eq}
use Rattle.std.proofs.lemmas.Bool.{leb-true, and_parts}
use Rattle.std.proofs.lemmas.List.Elements.{All-nil, All-cons, All-take, All-drop, All-from_recursion}
use Rattle.lattice_theory.specs.Vectors.{Vector}
use Rattle.lattice_theory.specs.Matrices.{Matrix, rows_of}
use Rattle.lattice_laws.proofs.VectorLists.{length_rows_of}
use Rattle.mat_files.specs.declared.shape.Shape.{Shape}
use Rattle.mat_files.specs.declared.fault.FaultKind.{FaultKind}
use Rattle.mat_files.specs.declared.fault.FaultKind.TheVariants as kind
use Rattle.mat_files.specs.declared.fault.TokenFault.{TokenFault}
use Rattle.mat_files.specs.Tokens.{Token, Left, whole, number_of, count_of, and_then}
use Rattle.mat_files.specs.Reading.{refused, number_at, size_at, count_at, next_token, next_by, next_number, next_size}
use Rattle.mat_files.specs.Reading.{next_count, repeated, none_of, only, IsAdded}
use Rattle.mat_files.specs.MatrixText.{next_shaped, mat_answer, parsed_matrix, Admits}
use Rattle.mat_files.proofs.RepeatLaws.{both_ok, same_ok, repeated_many, repeated_all}
use Rattle.mat_files.proofs.MatrixLaws.{even_rows}

-- ---- tests

-- nothing is given where the test holds
not_refused : {A E : Type 0} (test : Bool) (f : E) (read : Result A E) (a : A) → cond test (Err f) read ≡ Ok a
    → read ≡ Ok a
not_refused true f read a is = absurd (cc)
not_refused false f read a is = is

-- something is given only where the test holds
pub accepted : {A E : Type 0} (test : Bool) (x a : A) (f : E) → cond test (Ok x) (Err f) ≡ Ok a
    → (test ≡ true) × (x ≡ a)
accepted true x a f is = (refl, cc)
accepted false x a f is = absurd (cc)

-- ---- tokens

-- a number, where it is not too big
abbrev spelled_at : ℕ → ℕ → Option ℤ → Result ℤ TokenFault
spelled_at largest at spelled =
    elim spelled [
      | None ↦ refused at kind.NotNumber
      | Some x ↦ cond (nat_le (unsigned_abs x) largest) (Ok x) (refused at kind.TooBig)
    ]

spelled_small : (largest at : ℕ) (spelled : Option ℤ) (a : ℤ) → spelled_at largest at spelled ≡ Ok a
    → unsigned_abs a ≤ largest
spelled_small largest at None a is = absurd (cc)
spelled_small largest at (Some x) a is =
    let small = accepted (nat_le (unsigned_abs x) largest) x a _ is in
    subst (λ (y : ℤ). unsigned_abs y ≤ largest) small.1 (leb-true (unsigned_abs x) largest small.0)

pub number_at_small : (largest : ℕ) (t : Token) (a : ℤ) → number_at largest t ≡ Ok a → unsigned_abs a ≤ largest
number_at_small largest t a is =
    spelled_small largest t.at (number_of t.text) a (not_refused (bytes_eq t.text (codes "*")) _ _ a is)

size_between : (from to : ℕ) (a : ℤ) → (int_le (pos from) a && int_le a (pos to)) ≡ true
    → (from ≤ unsigned_abs a) × (unsigned_abs a ≤ to)
size_between from to (pos n) is =
    let both = and_parts (leb from n) (leb n to) is in (leb-true from n both.0, leb-true n to both.1)
size_between from to (negsuc n) is = absurd (cc)

pub size_at_within : (from to : ℕ) (t : Token) (n : ℕ) → size_at from to t ≡ Ok n → (from ≤ n) × (n ≤ to)
size_at_within from to t n is =
    let read = both_ok (number_at (2 ^ 62) t) _ n is in
    let size = accepted (int_le (pos from) read.0 && int_le read.0 (pos to)) (unsigned_abs read.0) n _ read.2 in
    subst (λ (k : ℕ). (from ≤ k) × (k ≤ to)) size.1 (size_between from to read.0 size.0)

-- a count, where it is in the range
abbrev counted_at : ℕ → ℕ → FaultKind → ℕ → Option ℕ → Result ℕ TokenFault
counted_at from to outside at spelled =
    elim spelled [
      | None ↦ refused at kind.NotNumber
      | Some n ↦ cond (nat_le from n && nat_le n to) (Ok n) (refused at outside)
    ]

counted_within : (from to : ℕ) (outside : FaultKind) (at : ℕ) (spelled : Option ℕ) (n : ℕ)
    → counted_at from to outside at spelled ≡ Ok n → (from ≤ n) × (n ≤ to)
counted_within from to outside at None n is = absurd (cc)
counted_within from to outside at (Some m) n is =
    let inside = accepted (nat_le from m && nat_le m to) m n _ is in
    let both = and_parts (leb from m) (leb m to) inside.0 in
    subst (λ (k : ℕ). (from ≤ k) × (k ≤ to)) inside.1 (leb-true from m both.0, leb-true m to both.1)

pub count_at_within : (from to : ℕ) (outside : FaultKind) (t : Token) (n : ℕ) → count_at from to outside t ≡ Ok n
    → (from ≤ n) × (n ≤ to)
count_at_within from to outside t n is = counted_within from to outside t.at (count_of t.text) n is

-- ---- readers

-- what is read is spelled by a token
pub next_by_ok : {A : Type 0} (spelled : Token → Result A TokenFault) (now after : Left) (a : A)
    → next_by spelled now ≡ Ok (a, after) → (t : Token) × (spelled t ≡ Ok a)
next_by_ok {A = A} spelled now after a is =
    let token = both_ok (next_token now) _ (a, after) is in
    let value = both_ok (spelled token.0.0) (λ x. Ok (x, token.0.1)) (a, after) token.2 in
    let same : value.0 ≡ a = ap (λ (p : A × Left). p.0) (same_ok (value.0, token.0.1) (a, after) value.2) in
    (token.0.0, value.1 ∙ ap Ok same)

pub next_number_small : (largest : ℕ) (now after : Left) (a : ℤ) → next_number largest now ≡ Ok (a, after)
    → unsigned_abs a ≤ largest
next_number_small largest now after a is =
    let token = next_by_ok (number_at largest) now after a is in number_at_small largest token.0 a token.1

next_size_within : (from to : ℕ) (now after : Left) (n : ℕ) → next_size from to now ≡ Ok (n, after)
    → (from ≤ n) × (n ≤ to)
next_size_within from to now after n is =
    let token = next_by_ok (size_at from to) now after n is in size_at_within from to token.0 n token.1

pub next_count_within : (from to : ℕ) (outside : FaultKind) (now after : Left) (n : ℕ)
    → next_count from to outside now ≡ Ok (n, after) → (from ≤ n) × (n ≤ to)
next_count_within from to outside now after n is =
    let token = next_by_ok (count_at from to outside) now after n is in count_at_within from to outside token.0 n
    token.1

-- the numbers that are read behind nothing
pub numbers_read : (largest n : ℕ) (start after : Left) (before now : Vector) → before ≡ []
    → IsAdded (repeated (next_number largest) n start) before now after
    → (length now ≡ n) × All (λ a. unsigned_abs a ≤ largest) now
numbers_read largest n start after before now none added =
    let small = λ (a : ℤ). unsigned_abs a ≤ largest in
    let all : added.0 ≡ now = sym (added.2 ∙ ap (λ (front : Vector). front ++ added.0) none) in (
      ap length (sym all) ∙ repeated_many (next_number largest) n start after added.0 added.1,
      subst (λ (v : Vector). All small v) all
          (repeated_all (next_number largest) small (next_number_small largest) n start after added.0 added.1),
    )

-- ---- matrices

-- what holds of each entry holds of each entry of each row
pub All-rows_of : (P : ℤ → Type 0) (n cols : ℕ) (entries : Vector) → All P entries
    → All (All P) (rows_of n cols entries)
All-rows_of P zero cols entries all = All-nil _
All-rows_of P (suc n) cols entries all =
    All-cons (All P) (take cols entries) (rows_of n cols (drop cols entries)) (All-take P cols entries all)
    (All-rows_of P n cols (drop cols entries) (All-drop P cols entries all))

-- what is read is within the shape
pub parsed_admits : (s : Shape) (bytes : List ℕ) (m : Matrix) → parsed_matrix s bytes ≡ Ok m → Admits s m
parsed_admits s bytes m is =
    let all = both_ok (next_shaped s (whole bytes)) (λ a. and_then (none_of a.1.tokens) (λ u. Ok a.0)) m
    (answered (only (next_shaped s) bytes) m is) in
    let rows = both_ok (next_size s.rows_from s.rows_to (whole bytes)) _ all.0 all.1 in
    let cols = both_ok (next_size s.cols_from s.cols_to rows.0.1) _ all.0 rows.2 in
    let r = next_size_within s.rows_from s.rows_to (whole bytes) rows.0.1 rows.0.0 rows.1 in
    let c = next_size_within s.cols_from s.cols_to rows.0.1 cols.0.1 cols.0.0 cols.1 in
    let entries = both_ok (repeated (next_number s.largest) (rows.0.0 * cols.0.0) cols.0.1) _ all.0 cols.2 in
    let many = repeated_many (next_number s.largest) (rows.0.0 * cols.0.0) cols.0.1 entries.0.1 entries.0.0 entries.1 in
    let small = repeated_all (next_number s.largest) (λ (a : ℤ). unsigned_abs a ≤ s.largest)
    (next_number_small s.largest) (rows.0.0 * cols.0.0) cols.0.1 entries.0.1 entries.0.0 entries.1 in
    let made : Matrix = record { cols = cols.0.0; rows = rows_of rows.0.0 cols.0.0 entries.0.0 } in
    let same : made ≡ all.0.0 = ap (λ (p : Matrix × Left). p.0) (same_ok (made, entries.0.1) all.0 entries.2) in
    let last = both_ok (none_of all.0.1.tokens) (λ u. Ok all.0.0) m all.2 in
    let whole_is : made ≡ m = same ∙ same_ok all.0.0 m last.2 in
    let height : length (rows_of rows.0.0 cols.0.0 entries.0.0) ≡ rows.0.0 = length_rows_of rows.0.0 cols.0.0
    entries.0.0 in
    subst (Admits s) whole_is (record {
      least_rows = omega (arith, height, r.0);
      most_rows = omega (arith, height, r.1);
      least_cols = c.0;
      most_cols = c.1;
      width = All-from_recursion (λ row. length row ≡ cols.0.0) _ (even_rows rows.0.0 cols.0.0 entries.0.0 many);
      entries = All-rows_of (λ (a : ℤ). unsigned_abs a ≤ s.largest) rows.0.0 cols.0.0 entries.0.0 small;
    })
  where
    answered : (r : Result Matrix TokenFault) (m : Matrix) → mat_answer r ≡ Ok m → r ≡ Ok m
    answered (Ok x) m e = ap Ok (same_ok x m e)
    answered (Err f) m e = absurd (cc)
