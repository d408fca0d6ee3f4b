-- What is read of the parts about the linking rows is within their limits.
use Rattle.std.proofs.Common.{◌≡◌, ℕ, zero, suc, ◌*◌, ◌+◌, ◌^◌, ◌≤◌, ℤ, pos, unsigned_abs, Bool, true, false, cond}
use Rattle.std.proofs.Common.{List, [], ◌∷◌, ◌++◌, length, All, Option, Some, None, Ok, codes, refl, ap, subst, sym}
use Rattle.std.proofs.Common.{◌∙◌, arith, add-one}
use Rattle.std.specs.Str.{bytes_eq}
use Rattle.std.proofs.lemmas.List.{length-append}
use Rattle.std.proofs.lemmas.Int.{ints}
use Rattle.lattice_theory.specs.Vectors.{Vector}
use Rattle.lattice_theory.specs.Matrices.{rows_of}
use Rattle.lattice_laws.proofs.VectorLists.{rows_of-push}
use Rattle.mat_files.specs.declared.fault.FaultKind.TheVariants as token
use Rattle.mat_files.specs.Tokens.{Token, Left, and_then}
use Rattle.mat_files.specs.Reading.{number_at, next_by, next_number, next_count, repeated, IsAdded}
use Rattle.mat_files.proofs.RepeatLaws.{both_ok, same_ok, repeated_many, repeated_all, one_more_read}
use Rattle.mat_files.proofs.ShapeLaws.{number_at_small, next_by_ok, next_number_small, next_count_within}
use Rattle.certificate.specs.CertificateText.{next_sum, cell_at}
use Rattle.certificate.specs.Readable.{IsSumRow, IsCell}

-- ---- sums

-- a row of sums as it is read
record IsReadSum (cols : ℕ) (row : Vector) : Type 0 where
  width : length row ≡ cols
  limits : IsSumRow row

next_sum_is : (cols : ℕ) (now after : Left) (row : Vector) → next_sum cols now ≡ Ok (row, after) → IsReadSum cols row
next_sum_is zero now after row is =
    let none : [] ≡ row = ap (λ (p : Vector × Left). p.0) (same_ok ([], now) (row, after) is) in
    subst (IsReadSum zero) none (record { width = refl; limits = tt })
next_sum_is (suc cols) now after row is =
    let level = both_ok (next_count 0 (2 ^ 62) token.TooBig now) _ (row, after) is in
    let sum = both_ok (repeated (next_number (2 ^ 47)) cols level.0.1) (λ v. Ok (pos level.0.0 ∷ v.0, v.1))
    (row, after) level.2 in
    let whole : pos level.0.0 ∷ sum.0.0 ≡ row =
    ap (λ (p : Vector × Left). p.0) (same_ok (pos level.0.0 ∷ sum.0.0, sum.0.1) (row, after) sum.2) in
    let count = next_count_within 0 (2 ^ 62) token.TooBig now level.0.1 level.0.0 level.1 in
    let small = λ (a : ℤ). unsigned_abs a ≤ 2 ^ 47 in
    subst (IsReadSum (suc cols)) whole (record {
      width = ap suc (repeated_many (next_number (2 ^ 47)) cols level.0.1 sum.0.1 sum.0.0 sum.1);
      limits = (
        omega (arith, ints),
        count.1,
        repeated_all (next_number (2 ^ 47)) small (next_number_small (2 ^ 47)) cols level.0.1 sum.0.1 sum.0.0 sum.1,
      );
    })

pub sum_width : (cols : ℕ) (now after : Left) (row : Vector) → next_sum cols now ≡ Ok (row, after) → length row ≡ cols
sum_width cols now after row is = (next_sum_is cols now after row is).width

-- all rows of sums are within their limits
pub sums_are : (cols rows : ℕ) (now after : Left) (sums : List Vector)
    → repeated (next_sum cols) rows now ≡ Ok (sums, after)
    → All IsSumRow sums
sums_are cols rows now after sums is =
    repeated_all (next_sum cols) IsSumRow (λ before behind row reads. (next_sum_is cols before behind row reads).limits)
    rows now after sums is

-- a row of sums more
pub one_more_sum : (cols i : ℕ) (start now after : Left) (before entries : Vector)
    → repeated (next_sum cols) i start ≡ Ok (rows_of i cols before, now) → length before ≡ i * cols
    → IsAdded (next_sum cols now) before entries after
    → (repeated (next_sum cols) (i + 1) start ≡ Ok (rows_of (i + 1) cols entries, after)) ×
    (length entries ≡ (i + 1) * cols)
one_more_sum cols i start now after before entries so_far all added =
    let row = added.0 in
    let width = sum_width cols now after row added.1 in
    let more = one_more_read (next_sum cols) i start now after (rows_of i cols before) row so_far added.1 in
    let pushed : rows_of (i + 1) cols entries ≡ rows_of i cols before ++ row ∷ [] =
    ap (rows_of (i + 1) cols) added.2 ∙ ap (λ n. rows_of n cols (before ++ row)) (add-one i)
    ∙ rows_of-push i cols before row all width in (
      more ∙ ap (λ (rows : List Vector). Ok (rows, after)) (sym pushed),
      omega (arith, ap length added.2, length-append before row, width, all),
    )

-- ---- potentials

cell_at_is : (t : Token) (cell : Option ℤ) → cell_at t ≡ Ok cell → IsCell cell
cell_at_is t cell is = by_word (bytes_eq t.text (codes "none")) is
  where
    by_word : (none : Bool) → cond none (Ok None) (and_then (number_at (2 ^ 124) t) (λ a. Ok (Some a))) ≡ Ok cell
        → IsCell cell
    by_word true e = subst IsCell (same_ok None cell e) tt
    by_word false e =
        let number = both_ok (number_at (2 ^ 124) t) (λ a. Ok (Some a)) cell e in
        subst IsCell (same_ok (Some number.0) cell number.2) (number_at_small (2 ^ 124) t number.0 number.1)

-- all potentials are within their limit
pub cells_are : (count : ℕ) (now after : Left) (cells : List (Option ℤ))
    → repeated (next_by cell_at) count now ≡ Ok (cells, after)
    → All IsCell cells
cells_are count now after cells is =
    repeated_all (next_by cell_at) IsCell
    (λ before behind cell reads. let t = next_by_ok cell_at before behind cell reads in cell_at_is t.0 cell t.1)
    count now after cells is
