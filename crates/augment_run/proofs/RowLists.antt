-- Lists of rows, one after the other.
use Rattle.std.proofs.Common.{◌≡◌, ℕ, zero, suc, ◌+◌, ◌-◌, ◌*◌, ◌≤◌, ℤ, ◌≤ℤ◌, List, [], ◌∷◌, ◌++◌, length, take, drop}
use Rattle.std.proofs.Common.{get_or, refl, ap, arith, sym, ◌∙◌, subst, Some, Option, slice_get, All, IsTrue, flat_map}
use Rattle.std.proofs.Common.{append-nil, length-append}
use Rattle.std.specs.List.{AllZip, AllByRecursion}
use Rattle.std.proofs.lemmas.Grind.{flat_map-append}
use Rattle.std.proofs.lemmas.List.{take_more, take_all}
use Rattle.std.proofs.lemmas.List.Elements.{All-append, length_all_zip, recursion_from_All}
use Rattle.std.proofs.lemmas.Option.{slice_get_within, get_or_from_slice_get}
use Rattle.lattice_theory.specs.Vectors.{Vector, is_bounded, IsBoundedRow}
use Rattle.lattice_theory.specs.Matrices.{rows_of}
use Rattle.fold_theory.specs.Programs.{Program, Brick, IsBrick, IsProgram, IsWithin}
use Rattle.run_theory.specs.Certificates.{table_rows}
use Rattle.fold_program.specs.Places.{OfBrick, HasBoundedSides}
use Rattle.fold_program.proofs.PointLaws.{vector_bounded}

-- the rows so far and one more
pub flat_more : {A : Type 0} (rows : List (List A)) (i : ℕ) (row entries : List A) → slice_get rows i ≡ Some row →
    entries ≡ flat_map (λ r. r) (take i rows) → entries ++ row ≡ flat_map (λ r. r) (take (i + 1) rows)
flat_more {A = A} rows i row entries there so_far =
    let low = slice_get_within rows i row there in
    let here : get_or rows i [] ≡ row = get_or_from_slice_get rows i row [] there in
    (λ j. so_far j ++ row)
    ∙ ap (λ (r : List A). flat_map (λ q. q) (take i rows) ++ r) (sym (append-nil row))
    ∙ sym (flat_map-append (λ (r : List A). r) (take i rows) (row ∷ []))
    ∙ ap (λ (r : List A). flat_map (λ q. q) (take i rows ++ r ∷ [])) (sym here)
    ∙ ap (flat_map (λ (r : List A). r)) (sym (take_more rows i [] low))

-- all rows
pub flat_all : {A : Type 0} (rows : List (List A)) (i : ℕ) (entries : List A) → length rows ≤ i →
    entries ≡ flat_map (λ r. r) (take i rows) → entries ≡ flat_map (λ r. r) rows
flat_all {A = A} rows i entries done so_far = so_far ∙ ap (flat_map (λ (r : List A). r)) (take_all i rows done)

take_at : {A : Type 0} (row rest : List A) (n : ℕ) → length row ≡ n → take n (row ++ rest) ≡ row
take_at [] rest zero size = refl
take_at [] rest (suc n) size = absurd (omega (arith, size))
take_at (a ∷ row) rest zero size = absurd (omega (arith, size))
take_at (a ∷ row) rest (suc n) size = ap (λ r. a ∷ r) (take_at row rest n (omega (arith, size)))

drop_at : {A : Type 0} (row rest : List A) (n : ℕ) → length row ≡ n → drop n (row ++ rest) ≡ rest
drop_at [] rest zero size = refl
drop_at [] rest (suc n) size = absurd (omega (arith, size))
drop_at (a ∷ row) rest zero size = absurd (omega (arith, size))
drop_at (a ∷ row) rest (suc n) size = drop_at row rest n (omega (arith, size))

-- the rows of a table from all its cells
table_again : (cols : ℕ) (rows : List (List (Option ℤ))) → AllByRecursion (λ row. length row ≡ cols) rows →
    table_rows (length rows) cols (flat_map (λ r. r) rows) ≡ rows
table_again cols [] widths = refl
table_again cols (row ∷ rows) widths =
    let rest = flat_map (λ (r : List (Option ℤ)). r) rows in
    let front = take_at row rest cols widths.0 in
    let after = drop_at row rest cols widths.0 in
    λ i. front i ∷ (ap (table_rows (length rows) cols) after ∙ table_again cols rows widths.1) i

pub table_rows-all : (cols n : ℕ) (rows : List (List (Option ℤ))) (cells : List (Option ℤ)) → n ≡ length rows →
    cells ≡ flat_map (λ r. r) rows → All (λ row. length row ≡ cols) rows → table_rows n cols cells ≡ rows
table_rows-all cols n rows cells count all widths =
    (λ i. table_rows (count i) cols (all i))
    ∙ table_again cols rows (recursion_from_All (λ row. length row ≡ cols) rows widths)

-- as many cells as the table has
cell_count : (cols : ℕ) (rows : List (List (Option ℤ))) → AllByRecursion (λ row. length row ≡ cols) rows →
    length (flat_map (λ r. r) rows) ≡ length rows * cols
cell_count cols [] widths = omega arith
cell_count cols (row ∷ rows) widths =
    length-append row (flat_map (λ (r : List (Option ℤ)). r) rows)
    ∙ omega (arith, widths.0, cell_count cols rows widths.1)

pub cells_fit : (cols n : ℕ) (rows : List (List (Option ℤ))) (cells : List (Option ℤ)) → n ≡ length rows →
    cells ≡ flat_map (λ r. r) rows → All (λ row. length row ≡ cols) rows → length cells ≡ n * cols
cells_fit cols n rows cells count all widths =
    ap length all ∙ cell_count cols rows (recursion_from_All (λ row. length row ≡ cols) rows widths)
    ∙ ap (λ m. m * cols) (sym count)

-- ---- points

-- the entries of the first bricks, each at most 2 ^ 62 in absolute value
pub record PointUpTo (x : List Vector) (i : ℕ) (entries : Vector) : Type 0 where
  pub so_far : entries ≡ flat_map (λ r. r) (take i x)
  pub bounded : IsBoundedRow entries

pub point_more : (x : List Vector) (i : ℕ) (v entries : Vector) → slice_get x i ≡ Some v → IsBoundedRow v →
    PointUpTo x i entries →
    PointUpTo x (i + 1) (entries ++ v)
point_more x i v entries there small up = record {
  so_far = flat_more x i v entries there up.so_far;
  bounded = All-append (λ a. IsTrue (is_bounded a)) entries v up.bounded small;
}

-- ---- vectors within bounds that are at most 2 ^ 62

pub bounded_between : (lower v upper : Vector) → IsBoundedRow lower → IsBoundedRow upper → AllZip ◌≤ℤ◌ lower v →
    AllZip ◌≤ℤ◌ v upper → IsBoundedRow v
bounded_between lower v upper low high above below =
    vector_bounded lower v upper (recursion_from_All (λ a. IsTrue (is_bounded a)) lower low)
    (recursion_from_All (λ a. IsTrue (is_bounded a)) upper high) above below

-- ---- a vector within the bounds of a brick

brick_of : (P : Brick → Type 0) (bs : List Brick) (i : ℕ) (b : Brick) → All P bs → slice_get bs i ≡ Some b → P b
brick_of P bs i b all there = subst P (get_or_from_slice_get bs i b b there) (all i b (slice_get_within bs i b there))

pub within_width : (p : Program) (i : ℕ) (v : Vector) → IsProgram p → OfBrick p i (λ b. IsWithin b v) →
    length v ≡ p.link.cols
within_width p i v program (b, there, within) =
    let is : IsBrick p.link.cols (length p.brick.rows) b =
    brick_of (IsBrick p.link.cols (length p.brick.rows)) p.bricks (i - 1) b program.each_brick there in
    sym (length_all_zip ◌≤ℤ◌ b.lower v within.0) ∙ is.lower_size

pub within_bounded : (p : Program) (i : ℕ) (v : Vector) → All HasBoundedSides p.bricks →
    OfBrick p i (λ b. IsWithin b v) → IsBoundedRow v
within_bounded p i v sides (b, there, within) =
    let has : HasBoundedSides b = brick_of HasBoundedSides p.bricks (i - 1) b sides there in
    bounded_between b.lower v b.upper has.0 has.1 within.0 within.1

pub number_low : (p : Program) (i : ℕ) (v : Vector) → OfBrick p i (λ b. IsWithin b v) → length p.bricks ≤ 10000 →
    i ≤ 10000
number_low p i v (b, there, within) few = omega (arith, few, slice_get_within p.bricks (i - 1) b there)

-- the one row of a matrix
pub one_row : (cols : ℕ) (v entries : Vector) → entries ≡ v → length v ≡ cols → rows_of 1 cols entries ≡ v ∷ []
one_row cols v entries same width =
    (λ j. take cols (same j) ∷ []) ∙ ap (λ (r : Vector). r ∷ []) (take_all cols v (omega (arith, width)))
