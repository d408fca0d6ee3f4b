-- Laws of the norms of first parts, and of the complexity, which is the greatest of them.
use Rattle.std.proofs.Common.{◌≡◌, ℕ, ◌+◌, ◌<◌, ◌≤◌, ◌^◌, max, unsigned_abs, Bool, true, false, cond, ◌&&◌, List, []}
use Rattle.std.proofs.Common.{◌∷◌, ◌++◌, length, map, take, get_or, refl, ap, arith, sym, ◌∙◌, Some, slice_get}
use Rattle.std.proofs.Common.{flat_map, inl, inr, length-take}
use Rattle.std.specs.List.{All, filter, list_all}
use Rattle.std.proofs.lemmas.Bool.{cases_lt}
use Rattle.std.proofs.lemmas.List.{take_more, take_all, map-append, length-map, get_or-map, take_at}
use Rattle.std.proofs.lemmas.List.Elements.{All-take, All-map, All-weaker, All-get_or, recursion_from_All}
use Rattle.std.proofs.lemmas.List.Elements.{filter-append}
use Rattle.std.proofs.lemmas.List.Folds.{list_all-append}
use Rattle.std.proofs.lemmas.Option.{slice_get_within, get_or_from_slice_get}
use Rattle.fold_theory.specs.declared.Phase.{Phase}
use Rattle.fold_theory.specs.declared.Relation.{Relation}
use Rattle.lattice_theory.specs.Lists.{greatest}
use Rattle.lattice_theory.specs.Vectors.{Vector, norm1, is_zero, dot}
use Rattle.lattice_theory.specs.Matrices.{Matrix}
use Rattle.lattice_theory.specs.Lattices.{IsSlackBasis}
use Rattle.lattice_theory.specs.BasisLimits.{IsNarrow, IsBasisElement}
use Rattle.run_theory.specs.Links.{counts_in, least_complexity, complexity}
use Rattle.lattice_laws.proofs.Elements.{lifted, element-lifted}
use Rattle.lattice_laws.proofs.UnitVectors.{first_units, length-first_units, units_elements, units_differ, without_rows}
use Rattle.lattice_laws.proofs.Rising.{AreDifferent}
use Rattle.lattice_laws.proofs.SlackBases.{exceeds_by_many, within_or_exceeds}
use Rattle.lattice_laws.proofs.Narrow.{norm1-narrow}
use Rattle.lattice_laws.proofs.Members.{greatest-append}

-- ---- norms

pub norm1-first_part : (cols : ℕ) (z : Vector) → cols ≤ 2000 → IsNarrow z → norm1 (take cols z) < 2 ^ 43
norm1-first_part cols z few narrow =
    let first = take cols z in
    let each =
    recursion_from_All (λ a. unsigned_abs a < 2 ^ 31) first (All-take (λ a. unsigned_abs a < 2 ^ 31) cols z narrow) in
    let size : length first ≤ 2000 = omega (arith, length-take cols z, few) in
    omega (arith, norm1-narrow first each, size)

-- ---- the least value

-- a matrix is zero where all its entries, row by row, are
is_zero-flat : (rows : List Vector) → is_zero (flat_map (λ row. row) rows) ≡ list_all is_zero rows
is_zero-flat [] = refl
is_zero-flat (row ∷ rows) =
    list_all-append _ row (flat_map (λ (r : Vector). r) rows) ∙ ap (λ b. is_zero row && b) (is_zero-flat rows)

pub least_complexity-entries : (m : Matrix) (entries : Vector) (none : Bool) → entries ≡ flat_map (λ row. row) m.rows →
    none ≡ is_zero entries → cond none 1 2 ≡ least_complexity m
least_complexity-entries m entries none all is =
    ap (λ b. cond b 1 2) (is ∙ ap is_zero all ∙ is_zero-flat m.rows)

least_complexity-from : (m : Matrix) → (1 ≤ least_complexity m) × (least_complexity m ≤ 2)
least_complexity-from m = by (list_all is_zero m.rows)
  where
    by : (b : Bool) → (1 ≤ cond b 1 2) × (cond b 1 2 ≤ 2)
    by true = (omega arith, omega arith)
    by false = (omega arith, omega arith)

-- ---- the greatest norm

-- the norms of the first parts that count
abbrev pub norms : Phase → List Relation → ℕ → List Vector → List ℕ
norms phase relations cols zs = map (λ z. norm1 (take cols z)) (filter (counts_in phase relations cols) zs)

-- the complexity as the first elements have it
pub record IsGreatest (phase : Phase) (relations : List Relation) (m : Matrix) (elements : List Vector) (i most : ℕ) :
    Type 0 where
  pub is : most ≡ max (least_complexity m) (greatest (norms phase relations m.cols (take i elements)))
  pub from : 1 ≤ most
  pub small : most < 2 ^ 43

pub greatest_none : (phase : Phase) (relations : List Relation) (m : Matrix) (elements : List Vector) (most : ℕ) →
    most ≡ least_complexity m →
    IsGreatest phase relations m elements 0 most
greatest_none phase relations m elements most e =
    let least = least_complexity-from m in
    record { is = omega (arith, e); from = omega (arith, e, least.0); small = omega (arith, e, least.1) }

module _ (phase : Phase) (relations : List Relation) (m : Matrix) (elements : List Vector) (i : ℕ) (z : Vector)
    (there : slice_get elements i ≡ Some z) where
  next : norms phase relations m.cols (take (i + 1) elements)
      ≡ norms phase relations m.cols (take i elements) ++ norms phase relations m.cols (z ∷ [])
  next =
      ap (norms phase relations m.cols)
      (take_more elements i z (slice_get_within elements i z there)
      ∙ ap (λ y. take i elements ++ y ∷ []) (get_or_from_slice_get elements i z z there))
      ∙ ap (map (λ y. norm1 (take m.cols y))) (filter-append (counts_in phase relations m.cols) (take i elements) (z
      ∷ []))
      ∙ map-append (λ (y : Vector). norm1 (take m.cols y)) (filter (counts_in phase relations m.cols) (take i elements))
      (filter (counts_in phase relations m.cols) (z ∷ []))

  next_greatest : (b : Bool) → counts_in phase relations m.cols z ≡ b →
      greatest (norms phase relations m.cols (take (i + 1) elements))
      ≡ max (greatest (norms phase relations m.cols (take i elements))) (cond b (norm1 (take m.cols z)) 0)
  next_greatest b e =
      ap greatest next ∙ greatest-append (norms phase relations m.cols (take i elements))
      (norms phase relations m.cols (z ∷ []))
      ∙ ap (max (greatest (norms phase relations m.cols (take i elements))))
      (ap (λ c. greatest (map (λ (y : Vector). norm1 (take m.cols y)) (cond c (z ∷ []) []))) e ∙ one b)
    where
      one : (c : Bool) →
          greatest (map (λ y. norm1 (take m.cols y)) (cond c (z ∷ []) [])) ≡ cond c (norm1 (take m.cols z)) 0
      one true = omega arith
      one false = refl

  -- an element that counts
  pub greatest_counted : (most norm : ℕ) → counts_in phase relations m.cols z ≡ true → norm ≡ norm1 (take m.cols z) →
      norm < 2 ^ 43 → IsGreatest phase relations m elements i most →
      IsGreatest phase relations m elements (i + 1) (max most norm)
  greatest_counted most norm counts e small so_far = record {
    is = omega (arith, next_greatest true counts, e, so_far.is);
    from = omega (arith, so_far.from);
    small = omega (arith, so_far.small, small);
  }

  -- an element that does not count
  pub greatest_left : (most : ℕ) → counts_in phase relations m.cols z ≡ false →
      IsGreatest phase relations m elements i most →
      IsGreatest phase relations m elements (i + 1) most
  greatest_left most counts so_far = record {
    is = omega (arith, next_greatest false counts, so_far.is);
    from = so_far.from;
    small = so_far.small;
  }

pub greatest_all : (phase : Phase) (relations : List Relation) (m : Matrix) (elements : List Vector) (i most : ℕ) →
    length elements ≤ i →
    IsGreatest phase relations m elements i most → most ≡ complexity phase relations m elements
greatest_all phase relations m elements i most all so_far =
    so_far.is ∙ ap (λ zs. max (least_complexity m) (greatest (norms phase relations m.cols zs)))
    (take_all i elements all)

-- ---- the number of columns

-- the elements of the unit vectors
abbrev unit_elements : Matrix → List Vector
unit_elements m = map (lifted (without_rows m.cols) m.rows) (first_units m.cols m.cols)

unit_elements-are : (m : Matrix) → All (IsBasisElement m) (unit_elements m)
unit_elements-are m =
    All-map (IsBasisElement m) (lifted (without_rows m.cols) m.rows) (first_units m.cols m.cols)
    (All-weaker (IsBasisElement (without_rows m.cols)) (λ z. IsBasisElement m (lifted (without_rows m.cols) m.rows z))
    (λ z is. element-lifted (without_rows m.cols) m.rows z is) (first_units m.cols m.cols) (units_elements m.cols))

unit_elements-differ : (m : Matrix) → AreDifferent (unit_elements m)
unit_elements-differ m i j d before low same =
    let units = first_units m.cols m.cols in
    let lift = lifted (without_rows m.cols) m.rows in
    let size : j < length units = omega (arith, low, length-map units lift) in
    let first = get_or-map lift units i [] d (omega (arith, before, size)) in
    let second = get_or-map lift units j [] d size in
    units_differ m.cols i j [] before size
    (cut_again i (omega (arith, before, size)) ∙ ap (take m.cols) (sym first ∙ same ∙ second) ∙ sym (cut_again j size))
  where
    cut_again : (k : ℕ) → k < length (first_units m.cols m.cols) →
        get_or (first_units m.cols m.cols) k []
        ≡ take m.cols (lifted (without_rows m.cols) m.rows (get_or (first_units m.cols m.cols) k []))
    cut_again k below =
        let unit = get_or (first_units m.cols m.cols) k [] in
        let is =
        All-get_or (IsBasisElement (without_rows m.cols)) (first_units m.cols m.cols) k [] below
        (units_elements m.cols) in
        sym (take_at unit (map (λ (row : Vector). dot row (take m.cols unit)) m.rows) m.cols
        (omega (arith, is.0.member.size)))

-- a slack basis has an element for each unit vector
pub cols-basis : (m : Matrix) (basis : List Vector) → IsSlackBasis m basis → All IsNarrow basis → m.cols ≤ length basis
cols-basis m basis slack narrow = elim (cases_lt (length basis) m.cols) [
  | inr few ↦ few
  | inl many ↦
      let size : length basis < length (unit_elements m) =
      omega (
        arith,
        many,
        length-map (first_units m.cols m.cols) (lifted (without_rows m.cols) m.rows),
        length-first_units m.cols m.cols,
      ) in
      absurd (within_or_exceeds m (length basis) basis (record { slack = slack; short = omega arith; narrow = narrow })
      (exceeds_by_many m (length basis) (unit_elements m) (unit_elements-differ m) size (unit_elements-are m)))
]

pub cols-few : (m : Matrix) (basis : List Vector) (size : ℕ) → IsSlackBasis m basis →
    All (λ z. (length z ≡ size) × IsNarrow z) basis → length basis ≤ 2000 → m.cols ≤ 2000
cols-few m basis size slack members few =
    let narrow = All-weaker (λ z. (length z ≡ size) × IsNarrow z) IsNarrow (λ z is. is.1) basis members in
    omega (arith, cols-basis m basis slack narrow, few)
