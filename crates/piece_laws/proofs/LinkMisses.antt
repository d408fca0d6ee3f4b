-- What linking rows miss, by their relations. With a part v of the way from x to y, the two points x + v and y - v
-- together miss their rows by no more than x and y do. Between two points that miss no row, no equation changes.
use Rattle.std.proofs.Common.{◌≡◌, ℕ, ◌+◌, ◌≤◌, ℤ, pos, negsuc, ◌+ℤ◌, ◌-ℤ◌, neg_ℤ, true, ◌&&◌, List, [], ◌∷◌, length}
use Rattle.std.proofs.Common.{sum, refl, ap, arith, ◌∙◌}
use Rattle.std.proofs.lemmas.Int.{ints}
use Rattle.std.proofs.lemmas.List.Sums.{sum_by-cons}
use Rattle.std.specs.Ordering.{int_eq}
use borrow.Author.Differences.{up, down}
use Rattle.fold_theory.specs.declared.Relation.{Relation}
use Rattle.fold_theory.specs.declared.Relation.TheVariants.{Equal, Less, Greater}
use Rattle.lattice_theory.specs.Vectors.{Vector, ◌⊑◌, conforms, is_between, add, sub, opposite}
use Rattle.lattice_laws.proofs.Tests.{and_true, int_eq_true, int_eq_refl}
use Rattle.lattice_laws.proofs.Signs.{part_of, one_zero, abs_parts}
use Rattle.fold_theory.specs.Programs.{dist, keeps_row, keeps_equations}
use Rattle.lattice_theory.specs.Lists.{zip_with}
use Rattle.fold_theory.specs.declared.Phase.{Phase}
use Rattle.fold_theory.specs.declared.Phase.TheVariants.{Closed, Counted}
use Rattle.lattice_theory.specs.Matrices.{Matrix, product}
use Rattle.lattice_laws.proofs.Products.{rows-opposite}

-- ---- one row

-- a row that is to be at most its right side misses what it rests below 0, and one that is to be at least, above
dist_of_at_most : (rest : ℤ) → dist Less rest ≡ down rest
dist_of_at_most (pos n) = omega arith
dist_of_at_most (negsuc n) = omega arith

dist_of_at_least : (rest : ℤ) → dist Greater rest ≡ up rest
dist_of_at_least (pos n) = omega arith
dist_of_at_least (negsuc n) = omega arith

-- two parts of a distance, for each relation
pub dist_parts : (relation : Relation) (right x y v : ℤ) → is_between v (y -ℤ x) ≡ true →
    dist relation (right -ℤ (x +ℤ v)) + dist relation (right -ℤ (y -ℤ v))
    ≤ dist relation (right -ℤ x) + dist relation (right -ℤ y)
dist_parts relation right x y v part = by relation
  where
    a : ℤ
    a = right -ℤ (x +ℤ v)

    b : ℤ
    b = right -ℤ (y -ℤ v)

    ups : up a + up b ≤ up (right -ℤ x) + up (right -ℤ y)
    ups =
        let p = part_of v (y -ℤ x) part in
        omega (arith, ints, p.ups, p.downs, one_zero v, one_zero (y -ℤ x), one_zero a, one_zero b)

    downs : down a + down b ≤ down (right -ℤ x) + down (right -ℤ y)
    downs =
        let p = part_of v (y -ℤ x) part in
        omega (arith, ints, p.ups, p.downs, one_zero v, one_zero (y -ℤ x), one_zero a, one_zero b)

    by : (r : Relation) → dist r a + dist r b ≤ dist r (right -ℤ x) + dist r (right -ℤ y)
    by Equal =
        omega (arith, ups, downs, abs_parts a, abs_parts b, abs_parts (right -ℤ x), abs_parts (right -ℤ y))
    by Less =
        omega (
          arith,
          downs,
          dist_of_at_most a,
          dist_of_at_most b,
          dist_of_at_most (right -ℤ x),
          dist_of_at_most (right -ℤ y),
        )
    by Greater =
        omega (
          arith,
          ups,
          dist_of_at_least a,
          dist_of_at_least b,
          dist_of_at_least (right -ℤ x),
          dist_of_at_least (right -ℤ y),
        )

-- ---- all rows

-- what rows with these relations and these rests miss, in all
abbrev pub missed : List Relation → Vector → ℕ
missed relations rests = sum (zip_with dist relations rests)

missed-cons : (relation : Relation) (relations : List Relation) (rest : ℤ) (rests : Vector) →
    missed (relation ∷ relations) (rest ∷ rests) ≡ dist relation rest + missed relations rests
missed-cons relation relations rest rests = sum_by-cons (λ n. n) (dist relation rest) (zip_with dist relations rests)

-- two parts of what the rows miss
pub missed_parts : (relations : List Relation) (right x y v : Vector) → v ⊑ sub y x → length x ≡ length right →
    length y ≡ length right →
    missed relations (sub right (add x v)) + missed relations (sub right (sub y v))
    ≤ missed relations (sub right x) + missed relations (sub right y)
missed_parts [] right x y v part ex ey = omega arith
missed_parts (e ∷ es) [] x y v part ex ey = omega arith
missed_parts (e ∷ es) (r ∷ rs) [] y v part ex ey = absurd (omega arith)
missed_parts (e ∷ es) (r ∷ rs) (x ∷ xs) [] v part ex ey = absurd (omega arith)
missed_parts (e ∷ es) (r ∷ rs) (x ∷ xs) (y ∷ ys) [] part ex ey = absurd (cc)
missed_parts (e ∷ es) (r ∷ rs) (x ∷ xs) (y ∷ ys) (v ∷ vs) part ex ey =
    let p = and_true (is_between v (y -ℤ x)) (conforms vs (sub ys xs)) part in
    omega (
      arith,
      missed-cons e es (r -ℤ (x +ℤ v)) (sub rs (add xs vs)),
      missed-cons e es (r -ℤ (y -ℤ v)) (sub rs (sub ys vs)),
      missed-cons e es (r -ℤ x) (sub rs xs),
      missed-cons e es (r -ℤ y) (sub rs ys),
      dist_parts e r x y v p.0,
      missed_parts es rs xs ys vs p.1 (omega arith) (omega arith),
    )

-- ---- equations

-- where two points miss no row, no equation changes from the one to the other
row_kept : (relation : Relation) (right x y : ℤ) → dist relation (right -ℤ x) ≡ 0 → dist relation (right -ℤ y) ≡ 0 →
    keeps_row relation (y -ℤ x) ≡ true
row_kept Equal right x y at_x at_y =
    let same : y -ℤ x ≡ pos 0 = omega (arith, ints, at_x, at_y) in
    ap (λ a. int_eq a (pos 0)) same ∙ int_eq_refl (pos 0)
row_kept Less right x y at_x at_y = refl
row_kept Greater right x y at_x at_y = refl

-- so for all rows
pub equations_kept : (relations : List Relation) (right x y : Vector) → length right ≡ length relations →
    length x ≡ length relations → length y ≡ length relations →
    missed relations (sub right x) ≡ 0 → missed relations (sub right y) ≡ 0 →
    keeps_equations relations (sub y x) ≡ true
equations_kept [] [] [] [] er ex ey at_x at_y = refl
equations_kept [] [] [] (y ∷ ys) er ex ey at_x at_y = absurd (omega arith)
equations_kept [] [] (x ∷ xs) y er ex ey at_x at_y = absurd (omega arith)
equations_kept [] (r ∷ rs) x y er ex ey at_x at_y = absurd (omega arith)
equations_kept (e ∷ es) [] x y er ex ey at_x at_y = absurd (omega arith)
equations_kept (e ∷ es) (r ∷ rs) [] y er ex ey at_x at_y = absurd (omega arith)
equations_kept (e ∷ es) (r ∷ rs) (x ∷ xs) [] er ex ey at_x at_y = absurd (omega arith)
equations_kept (e ∷ es) (r ∷ rs) (x ∷ xs) (y ∷ ys) er ex ey at_x at_y =
    let first = missed-cons e es (r -ℤ x) (sub rs xs) in
    let second = missed-cons e es (r -ℤ y) (sub rs ys) in
    ap (λ t. t && keeps_equations es (sub ys xs))
    (row_kept e r x y (omega (arith, first, at_x)) (omega (arith, second, at_y)))
    ∙ equations_kept es rs xs ys (omega arith) (omega arith) (omega arith) (omega (arith, first, at_x))
    (omega (arith, second, at_y))

-- a part of what keeps the equations keeps them
row_kept_below : (relation : Relation) (a b : ℤ) → is_between a b ≡ true → keeps_row relation b ≡ true →
    keeps_row relation a ≡ true
row_kept_below Equal a b below kept =
    let none : b ≡ pos 0 = int_eq_true b (pos 0) kept in
    let p = part_of a b below in
    let same : a ≡ pos 0 = omega (arith, ints, p.ups, p.downs, one_zero b, none, one_zero a) in
    ap (λ c. int_eq c (pos 0)) same ∙ int_eq_refl (pos 0)
row_kept_below Less a b below kept = refl
row_kept_below Greater a b below kept = refl

-- so for all rows
pub equations_kept_below : (relations : List Relation) (u v : Vector) → u ⊑ v → keeps_equations relations v ≡ true →
    keeps_equations relations u ≡ true
equations_kept_below [] [] v below kept = refl
equations_kept_below [] (a ∷ u) [] below kept = absurd (cc)
equations_kept_below [] (a ∷ u) (b ∷ v) below kept = absurd (cc)
equations_kept_below (e ∷ es) [] [] below kept = absurd (cc)
equations_kept_below (e ∷ es) [] (b ∷ v) below kept = absurd (cc)
equations_kept_below (e ∷ es) (a ∷ u) [] below kept = absurd (cc)
equations_kept_below (e ∷ es) (a ∷ u) (b ∷ v) below kept =
    let parts = and_true (is_between a b) (conforms u v) below in
    let rows = and_true (keeps_row e b) (keeps_equations es v) kept in
    ap (λ t. t && keeps_equations es u) (row_kept_below e a b parts.0 rows.0)
    ∙ equations_kept_below es u v parts.1 rows.1

-- with its signs turned it keeps them too
row_kept_turned : (relation : Relation) (a : ℤ) → keeps_row relation a ≡ true → keeps_row relation (neg_ℤ a) ≡ true
row_kept_turned Equal a kept =
    let same : neg_ℤ a ≡ pos 0 = ap neg_ℤ (int_eq_true a (pos 0) kept) in
    ap (λ c. int_eq c (pos 0)) same ∙ int_eq_refl (pos 0)
row_kept_turned Less a kept = refl
row_kept_turned Greater a kept = refl

-- so for all rows
pub equations_kept_turned : (relations : List Relation) (v : Vector) → keeps_equations relations v ≡ true →
    keeps_equations relations (opposite v) ≡ true
equations_kept_turned [] [] kept = refl
equations_kept_turned [] (a ∷ v) kept = absurd (cc)
equations_kept_turned (e ∷ es) [] kept = absurd (cc)
equations_kept_turned (e ∷ es) (a ∷ v) kept =
    let rows = and_true (keeps_row e a) (keeps_equations es v) kept in
    ap (λ t. t && keeps_equations es (opposite v)) (row_kept_turned e a rows.0) ∙ equations_kept_turned es v rows.1

-- ---- what a phase asks of a change of the linking rows

-- what the phase asks of a change of the linking rows: in the closed phase no equation changes
abbrev pub IsTight : Phase → List Relation → Vector → Type 0
IsTight Closed relations image = keeps_equations relations image ≡ true
IsTight Counted relations image = Unit {0}

-- what the phase asks of a change it asks of each part of it, and of the change with its signs turned
pub tight_below : (phase : Phase) (relations : List Relation) (u v : Vector) → u ⊑ v → IsTight phase relations v →
    IsTight phase relations u
tight_below Closed relations u v below tight = equations_kept_below relations u v below tight
tight_below Counted relations u v below tight = tt

-- and of the change with its signs turned
pub tight_turned : (phase : Phase) (relations : List Relation) (m : Matrix) (v : Vector) →
    IsTight phase relations (product m v) → IsTight phase relations (product m (opposite v))
tight_turned Closed relations m v tight =
    ap (keeps_equations relations) (rows-opposite m.rows v) ∙ equations_kept_turned relations (product m v) tight
tight_turned Counted relations m v tight = tt
