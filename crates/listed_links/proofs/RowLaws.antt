-- Rows that stand one after the other in a list of entries, and the generators that a list of elements has.
use Rattle.std.proofs.Common.{◌≡◌, ℕ, ◌+◌, ◌*◌, ◌<◌, ◌≤◌, ◌^◌, unsigned_abs, Bool, true, false, cond, List, [], ◌∷◌}
use Rattle.std.proofs.Common.{◌++◌, length, map, take, drop, get_or, refl, ap, arith, sym, ◌∙◌, subst, append_assoc}
use Rattle.std.proofs.Common.{Some, slice_get, flat_map}
use Rattle.std.specs.List.{All, AllByRecursion, filter}
use Rattle.std.proofs.lemmas.List.{take_all, take_more, map-append, append-nil, length_push}
use Rattle.std.proofs.lemmas.List.Elements.{All-map, All-filter, All-weaker, All-take, filter-append}
use Rattle.std.proofs.lemmas.Option.{slice_get-get_or, slice_get_within}
use Rattle.lattice_theory.specs.Vectors.{Vector, is_zero}
use Rattle.lattice_theory.specs.Matrices.{rows_of}
use Rattle.lattice_theory.specs.Lattices.{kernel}
use Rattle.lattice_theory.specs.BasisLimits.{IsNarrow}
use Rattle.lattice_laws.proofs.VectorLists.{length-flat, rows_of-flat}
use Rattle.lattice_laws.specs.VectorLists.{flat}

-- ---- rows one after the other

-- so many rows of cols entries, which stand one after the other in the entries
pub record Stands (cols : ℕ) (list : List Vector) (rows : ℕ) (entries : Vector) : Type 0 where
  pub count : rows ≡ length list
  pub entries_are : entries ≡ flat_map (λ row. row) list
  pub widths : AllByRecursion (λ row. length row ≡ cols) list

pub stands-none : (cols : ℕ) (entries : Vector) → entries ≡ [] → Stands cols [] 0 entries
stands-none cols entries none = record { count = refl; entries_are = none; widths = tt }

flat_push : (rows : List Vector) (v : Vector) → flat (rows ++ v ∷ []) ≡ flat rows ++ v
flat_push [] v = append-nil v
flat_push (row ∷ rows) v = ap (λ t. row ++ t) (flat_push rows v) ∙ sym (append_assoc row (flat rows) v)

widths_push : (cols : ℕ) (rows : List Vector) (v : Vector) → AllByRecursion (λ row. length row ≡ cols) rows →
    length v ≡ cols → AllByRecursion (λ row. length row ≡ cols) (rows ++ v ∷ [])
widths_push cols [] v all wide = (wide, tt)
widths_push cols (row ∷ rows) v all wide = (all.0, widths_push cols rows v all.1 wide)

-- one row more
pub stands-push : (cols : ℕ) (list : List Vector) (rows : ℕ) (entries longer v : Vector) →
    Stands cols list rows entries →
    longer ≡ entries ++ v → length v ≡ cols → Stands cols (list ++ v ∷ []) (rows + 1) longer
stands-push cols list rows entries longer v so_far is wide = record {
  count = omega (arith, so_far.count, length_push list v);
  entries_are = is ∙ ap (λ t. t ++ v) so_far.entries_are ∙ sym (flat_push list v);
  widths = widths_push cols list v so_far.widths wide;
}

-- the entries are as many as a matrix wants, and its rows are the list
pub stands-length : (cols : ℕ) (list : List Vector) (rows : ℕ) (entries : Vector) → Stands cols list rows entries →
    length entries ≡ rows * cols
stands-length cols list rows entries all =
    ap length all.entries_are ∙ length-flat cols list all.widths ∙ ap (λ n. n * cols) (sym all.count)

pub stands-rows : (cols : ℕ) (list : List Vector) (rows : ℕ) (entries : Vector) → Stands cols list rows entries →
    rows_of rows cols entries ≡ list
stands-rows cols list rows entries all =
    (λ i. rows_of (all.count i) cols (all.entries_are i)) ∙ rows_of-flat cols list all.widths

-- ---- generators

-- one element more
pub kernel-more : (cols i : ℕ) (elements : List Vector) (z : Vector) → slice_get elements i ≡ Some z →
    kernel cols (take (i + 1) elements)
    ≡ kernel cols (take i elements) ++ cond (is_zero (drop cols z)) (take cols z ∷ []) []
kernel-more cols i elements z here =
    let low = slice_get_within elements i z here in
    let same : get_or elements i z ≡ z = cc (slice_get-get_or elements i z low) in
    ap (kernel cols) (take_more elements i z low ∙ ap (λ v. take i elements ++ v ∷ []) same)
    ∙ ap (map (take cols)) (filter-append (λ v. is_zero (drop cols v)) (take i elements) (z ∷ []))
    ∙ map-append (take cols) (filter (λ v. is_zero (drop cols v)) (take i elements))
    (cond (is_zero (drop cols z)) (z ∷ []) [])
    ∙ ap (λ vs. kernel cols (take i elements) ++ vs) (by (is_zero (drop cols z)))
  where
    by : (b : Bool) → map (take cols) (cond b (z ∷ []) []) ≡ cond b (take cols z ∷ []) []
    by true = refl
    by false = refl

-- what is known after the first elements
pub record AreRead (cols : ℕ) (elements : List Vector) (i count : ℕ) (entries : Vector) : Type 0 where
  pub few : count ≤ i
  pub stands : Stands cols (kernel cols (take i elements)) count entries

pub read-none : (cols : ℕ) (elements : List Vector) (entries : Vector) → entries ≡ [] →
    AreRead cols elements 0 0 entries
read-none cols elements entries none = record { few = omega arith; stands = stands-none cols entries none }

pub read-taken : (cols i count : ℕ) (elements : List Vector) (entries longer z : Vector) →
    AreRead cols elements i count entries → slice_get elements i ≡ Some z → is_zero (drop cols z) ≡ true →
    length (take cols z) ≡ cols → longer ≡ entries ++ take cols z → AreRead cols elements (i + 1) (count + 1) longer
read-taken cols i count elements entries longer z so_far here none wide is = record {
  few = omega (arith, so_far.few);
  stands = subst (λ list. Stands cols list (count + 1) longer)
      (sym (kernel-more cols i elements z here
      ∙ ap (λ b. kernel cols (take i elements) ++ cond b (take cols z ∷ []) []) none))
      (stands-push cols (kernel cols (take i elements)) count entries longer (take cols z) so_far.stands is wide);
}

pub read-left : (cols i count : ℕ) (elements : List Vector) (entries z : Vector) →
    AreRead cols elements i count entries → slice_get elements i ≡ Some z → is_zero (drop cols z) ≡ false →
    AreRead cols elements (i + 1) count entries
read-left cols i count elements entries z so_far here some = record {
  few = omega (arith, so_far.few);
  stands = subst (λ list. Stands cols list count entries)
      (sym (kernel-more cols i elements z here
      ∙ ap (λ b. kernel cols (take i elements) ++ cond b (take cols z ∷ []) []) some
      ∙ append-nil (kernel cols (take i elements))))
      so_far.stands;
}

pub read-rows : (cols i count : ℕ) (elements : List Vector) (entries : Vector) → AreRead cols elements i count entries →
    length elements ≤ i → rows_of count cols entries ≡ kernel cols elements
read-rows cols i count elements entries all past =
    stands-rows cols (kernel cols (take i elements)) count entries all.stands
    ∙ ap (kernel cols) (take_all i elements past)

pub kernel-narrow : (cols : ℕ) (elements : List Vector) → All IsNarrow elements → All IsNarrow (kernel cols elements)
kernel-narrow cols elements narrow =
    All-map IsNarrow (take cols) (filter (λ z. is_zero (drop cols z)) elements)
    (All-weaker IsNarrow (λ z. IsNarrow (take cols z)) (λ z k. All-take (λ a. unsigned_abs a < 2 ^ 31) cols z k)
    (filter (λ z. is_zero (drop cols z)) elements)
    (All-filter (λ z. is_zero (drop cols z)) IsNarrow elements narrow))
