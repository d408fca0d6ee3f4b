-- Points, row by row.
use Rattle.std.proofs.Common.{◌≡◌, ℕ, zero, suc, ◌*◌, ◌^◌, ◌≤◌, ℤ, ◌≤ℤ◌, unsigned_abs, true, false, inl, inr, IsTrue}
use Rattle.std.proofs.Common.{All, List, [], ◌∷◌, ◌++◌, length, take, drop, refl, ap, arith, sym, ◌∙◌, subst}
use Rattle.std.proofs.Common.{length-take}
use Rattle.std.specs.List.{AllZip, AllByRecursion}
use Rattle.std.proofs.lemmas.Int.{ints}
use Rattle.std.proofs.lemmas.Bool.Decides.{nat_tests}
use Rattle.std.proofs.lemmas.List.{length-drop, take-append-drop}
use Rattle.std.proofs.lemmas.List.Elements.{All-nil, All-cons, All-take, All-drop, All-contains, recursion_from_All}
use Rattle.lattice_theory.specs.Vectors.{Vector, is_bounded, IsBoundedRow}
use Rattle.lattice_theory.specs.Matrices.{rows_of}
use Rattle.fold_theory.specs.Programs.{Program, Brick, Bricks, AreWithin, IsProgram}
use Rattle.lattice_laws.specs.VectorLists.{flat}
use Rattle.lattice_laws.proofs.VectorLists.{length_rows_of}
use Rattle.lattice_laws.proofs.Tests.{is_bounded_true}
use Rattle.fold_laws.proofs.Points.{point-length, widths_within}
use Rattle.fold_program.specs.Points.{IsPoint, IsNoPoint, HasPointShape}
use Rattle.fold_program.specs.Places.{HasBoundedSides}
use Rattle.fold_program.proofs.PartsLaws.{bounded_flat}

-- rows of entries within the limit are within it
pub bounded_rows : (n cols : ℕ) (entries : Vector) → All (λ a. IsTrue (is_bounded a)) entries →
    All IsBoundedRow (rows_of n cols entries)
bounded_rows zero cols entries h = All-nil IsBoundedRow
bounded_rows (suc n) cols entries h =
    All-cons IsBoundedRow (take cols entries) (rows_of n cols (drop cols entries))
    (All-take (λ a. IsTrue (is_bounded a)) cols entries h)
    (bounded_rows n cols (drop cols entries) (All-drop (λ a. IsTrue (is_bounded a)) cols entries h))

-- and each has an entry for each column
even_rows : (n cols : ℕ) (entries : Vector) → length entries ≡ n * cols →
    All (λ v. length v ≡ cols) (rows_of n cols entries)
even_rows zero cols entries e = All-nil (λ v. length v ≡ cols)
even_rows (suc n) cols entries e =
    let width : length (take cols entries) ≡ cols = simp length-take (omega arith) in
    let left : length (drop cols entries) ≡ n * cols = simp length-drop (omega arith) in
    All-cons (λ v. length v ≡ cols) (take cols entries) (rows_of n cols (drop cols entries)) width
    (even_rows n cols (drop cols entries) left)

-- a point made from entries has the shape of its program
pub point_shape : (p : Program) (entries : Vector) (x : Bricks) → IsPoint p entries x → HasPointShape p x
point_shape p entries x made = subst (HasPointShape p) (sym made.value) (record {
  bricks = length_rows_of (length p.bricks) p.link.cols entries;
  widths = even_rows (length p.bricks) p.link.cols entries made.size;
})

-- ---- points within the bounds

between_bounded : (l a u : ℤ) → is_bounded l ≡ true → is_bounded u ≡ true → l ≤ℤ a → a ≤ℤ u → is_bounded a ≡ true
between_bounded l a u low high above below =
    let from : unsigned_abs l ≤ 2 ^ 62 = is_bounded_true l low in
    let to : unsigned_abs u ≤ 2 ^ 62 = is_bounded_true u high in
    large a (omega (arith, ints, from, to, above, below))
  where
    large : (x : ℤ) → unsigned_abs x ≤ 2 ^ 62 → is_bounded x ≡ true
    large x h = grind (arith, nat_tests)

pub vector_bounded : (lower v upper : Vector) → AllByRecursion (λ a. IsTrue (is_bounded a)) lower →
    AllByRecursion (λ a. IsTrue (is_bounded a)) upper →
    AllZip ◌≤ℤ◌ lower v → AllZip ◌≤ℤ◌ v upper → IsBoundedRow v
vector_bounded lower [] upper low high above below = All-nil (λ a. IsTrue (is_bounded a))
vector_bounded [] (a ∷ v) upper low high above below = absurd above
vector_bounded (l ∷ lower) (a ∷ v) [] low high above below = absurd below
vector_bounded (l ∷ lower) (a ∷ v) (u ∷ upper) low high above below =
    All-cons (λ b. IsTrue (is_bounded b)) a v (between_bounded l a u low.0 high.0 above.0 below.0)
    (vector_bounded lower v upper low.1 high.1 above.1 below.1)

point_bounded : (bs : List Brick) (x : Bricks) → AllByRecursion HasBoundedSides bs → AreWithin bs x → All IsBoundedRow x
point_bounded [] [] sides within = All-nil IsBoundedRow
point_bounded [] (v ∷ x) sides within = absurd within
point_bounded (b ∷ bs) [] sides within = absurd within
point_bounded (b ∷ bs) (v ∷ x) sides within =
    let low = recursion_from_All (λ a. IsTrue (is_bounded a)) b.lower sides.0.0 in
    let high = recursion_from_All (λ a. IsTrue (is_bounded a)) b.upper sides.0.1 in
    All-cons IsBoundedRow v x (vector_bounded b.lower v b.upper low high within.0.0 within.0.1)
    (point_bounded bs x sides.1 within.1)

-- the entries of all rows are the entries that they were made from
flat-rows_of : (n cols : ℕ) (entries : Vector) → length entries ≡ n * cols → flat (rows_of n cols entries) ≡ entries
flat-rows_of zero cols [] e = refl
flat-rows_of zero cols (a ∷ entries) e = absurd (omega arith)
flat-rows_of (suc n) cols entries e =
    let left : length (drop cols entries) ≡ n * cols = simp length-drop (omega arith) in
    ap (λ rest. take cols entries ++ rest) (flat-rows_of n cols (drop cols entries) left)
    ∙ take-append-drop cols entries

-- entries within the bounds of a program are within the limit
pub entries_bounded : (p : Program) (entries : Vector) → All HasBoundedSides p.bricks →
    length entries ≡ length p.bricks * p.link.cols →
    AreWithin p.bricks (rows_of (length p.bricks) p.link.cols entries) → IsBoundedRow entries
entries_bounded p entries sides size within =
    let rows = point_bounded p.bricks (rows_of (length p.bricks) p.link.cols entries)
    (recursion_from_All HasBoundedSides p.bricks sides) within in
    subst IsBoundedRow (flat-rows_of (length p.bricks) p.link.cols entries size)
    (bounded_flat (rows_of (length p.bricks) p.link.cols entries) rows)

-- so they make a point
pub within_is_point : (p : Program) (entries : Vector) → All HasBoundedSides p.bricks → IsNoPoint p entries →
    length entries ≡ length p.bricks * p.link.cols →
    AreWithin p.bricks (rows_of (length p.bricks) p.link.cols entries) → ⊥
within_is_point p entries sides (inl wrong) size within = wrong size
within_is_point p entries sides (inr (a, there, large)) size within =
    let small : is_bounded a ≡ true =
    All-contains (λ b. IsTrue (is_bounded b)) entries a (entries_bounded p entries sides size within) there in
    differ (sym small ∙ large)
  where
    differ : true ≡ false → ⊥
    differ e = cc

-- a point within the bounds has the shape of its program
pub shape_of : (p : Program) (x : Bricks) → IsProgram p → AreWithin p.bricks x → HasPointShape p x
shape_of p x program within = record {
  bricks = point-length p.bricks x within;
  widths = widths_within p.link.cols (length p.brick.rows) p.bricks x program.each_brick within;
}
