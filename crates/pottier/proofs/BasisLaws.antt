-- Laws of the rows of a matrix that stand one after the other, and of the kernel that is read from a basis.
use Rattle.std.proofs.Common.{◌≡◌, ℕ, ◌+◌, ◌*◌, ◌<◌, ◌≤◌, ◌^◌, unsigned_abs, Bool, true, false, cond, List, [], ◌∷◌}
use Rattle.std.proofs.Common.{◌++◌, length, map, take, drop, get_or, refl, ap, arith, sym, ◌∙◌, subst, length-append}
use Rattle.std.proofs.Common.{append_assoc, length-take, Some, None, slice_get, flat_map}
use Rattle.std.specs.List.{All, AllByRecursion, filter}
use Rattle.std.proofs.lemmas.List.{take_at, drop_at, take_more, map-append, length-map, append-nil, length_push}
use Rattle.std.proofs.lemmas.List.{take_all}
use Rattle.std.proofs.lemmas.List.Elements.{All-map, All-filter, All-weaker, All-take, filter-append}
use Rattle.std.proofs.lemmas.List.Elements.{recursion_from_All}
use Rattle.std.proofs.lemmas.Option.{slice_get-get_or, slice_get-map, slice_get_within, same_Some}
use Rattle.lattice_theory.specs.Vectors.{Vector, is_zero}
use Rattle.lattice_theory.specs.Matrices.{Matrix, rows_of}
use Rattle.lattice_theory.specs.Lattices.{kernel}
use Rattle.lattice_theory.specs.BasisLimits.{IsNarrow}
use Rattle.lattice_laws.proofs.Elements.{width}
use Rattle.pottier.specs.Stages.{AreMembers}

-- ---- rows one after the other

flat_length : (cols : ℕ) (rows : List Vector) → AllByRecursion (λ row. length row ≡ cols) rows →
    length (flat_map (λ row. row) rows) ≡ length rows * cols
flat_length cols [] h = omega arith
flat_length cols (row ∷ rows) h = omega (
  arith,
  length-append row (flat_map (λ r. r) rows),
  flat_length cols rows h.1,
  h.0,
)

flat_rows : (cols : ℕ) (rows : List Vector) → AllByRecursion (λ row. length row ≡ cols) rows →
    rows_of (length rows) cols (flat_map (λ row. row) rows) ≡ rows
flat_rows cols [] h = refl
flat_rows cols (row ∷ rows) h =
    let rest = flat_map (λ (r : Vector). r) rows in
    let head : take cols (row ++ rest) ≡ row = take_at row rest cols h.0 in
    let tail : rows_of (length rows) cols (drop cols (row ++ rest)) ≡ rows =
    ap (rows_of (length rows) cols) (drop_at row rest cols h.0) ∙ flat_rows cols rows h.1 in
    λ i. head i ∷ tail i

pub entries_fit : (count cols : ℕ) (rows : List Vector) (entries : Vector) → count ≡ length rows →
    entries ≡ flat_map (λ row. row) rows → All (λ row. length row ≡ cols) rows → length entries ≡ count * cols
entries_fit count cols rows entries e f h =
    ap length f ∙ flat_length cols rows (recursion_from_All (λ row. length row ≡ cols) rows h)
    ∙ ap (λ n. n * cols) (sym e)

pub rows_again : (count cols : ℕ) (rows : List Vector) (entries : Vector) → count ≡ length rows →
    entries ≡ flat_map (λ row. row) rows → All (λ row. length row ≡ cols) rows → rows_of count cols entries ≡ rows
rows_again count cols rows entries e f h =
    (λ i. rows_of (e i) cols (f i)) ∙ flat_rows cols rows (recursion_from_All (λ row. length row ≡ cols) rows h)

pub matrix_again : (m : Matrix) (count cols : ℕ) (entries : Vector) → count ≡ length m.rows → cols ≡ m.cols →
    entries ≡ flat_map (λ row. row) m.rows → All (λ row. length row ≡ cols) m.rows →
    record { cols = cols; rows = rows_of count cols entries } ≡ m
matrix_again m count cols entries e c f h = λ i. record {
  cols = c i;
  rows = rows_again count cols m.rows entries e f h i;
}

-- ---- the kernel

one_more : (cols : ℕ) (z image vector : Vector) → drop cols z ≡ image → take cols z ≡ vector →
    kernel cols (z ∷ []) ≡ cond (is_zero image) (vector ∷ []) []
one_more cols z image vector e f = by (is_zero (drop cols z)) ∙ (λ i. cond (is_zero (e i)) (f i ∷ []) [])
  where
    by : (b : Bool) → map (take cols) (cond b (z ∷ []) []) ≡ cond b (take cols z ∷ []) []
    by true = refl
    by false = refl

pub kernel_more : (cols i : ℕ) (elements : List Vector) (image vector : Vector) →
    slice_get (map (drop cols) elements) i ≡ Some image → slice_get (map (take cols) elements) i ≡ Some vector →
    kernel cols (take (i + 1) elements) ≡ kernel cols (take i elements) ++ cond (is_zero image) (vector ∷ []) []
kernel_more cols i elements image vector e f =
    let low : i < length elements = omega (
      arith,
      slice_get_within (map (drop cols) elements) i image e,
      length-map elements (drop cols),
    ) in
    let z = get_or elements i [] in
    let at : slice_get elements i ≡ Some z = slice_get-get_or elements i [] low in
    let second : drop cols z ≡ image = same_Some (drop cols z) image
    (sym (slice_get-map (drop cols) elements i ∙ ap (λ o. elim o [ Some x ↦ Some (drop cols x) | None ↦ None ]) at)
    ∙ e) in
    let first : take cols z ≡ vector = same_Some (take cols z) vector
    (sym (slice_get-map (take cols) elements i ∙ ap (λ o. elim o [ Some x ↦ Some (take cols x) | None ↦ None ]) at)
    ∙ f) in
    ap (kernel cols) (take_more elements i [] low)
    ∙ ap (map (take cols)) (filter-append (λ v. is_zero (drop cols v)) (take i elements) (z ∷ []))
    ∙ map-append (take cols) (filter (λ v. is_zero (drop cols v)) (take i elements))
    (filter (λ v. is_zero (drop cols v)) (z ∷ []))
    ∙ ap (λ vs. kernel cols (take i elements) ++ vs) (one_more cols z image vector second first)

pub kernel_taken : (cols i : ℕ) (elements : List Vector) (image vector : Vector) →
    slice_get (map (drop cols) elements) i ≡ Some image → slice_get (map (take cols) elements) i ≡ Some vector →
    is_zero image ≡ true →
    kernel cols (take (i + 1) elements) ≡ kernel cols (take i elements) ++ vector ∷ []
kernel_taken cols i elements image vector e f none =
    kernel_more cols i elements image vector e f ∙ ap (λ b. kernel cols (take i elements) ++ cond b (vector ∷ []) [])
    none

pub kernel_left : (cols i : ℕ) (elements : List Vector) (image : Vector) →
    slice_get (map (drop cols) elements) i ≡ Some image → is_zero image ≡ false →
    kernel cols (take (i + 1) elements) ≡ kernel cols (take i elements)
kernel_left cols i elements image e some =
    let low : i < length elements = omega (
      arith,
      slice_get_within (map (drop cols) elements) i image e,
      length-map elements (drop cols),
    ) in
    let size : i < length (map (take cols) elements) = omega (arith, length-map elements (take cols)) in
    kernel_more cols i elements image (get_or (map (take cols) elements) i []) e
    (slice_get-get_or (map (take cols) elements) i [] size)
    ∙ ap (λ b. kernel cols (take i elements) ++ cond b (get_or (map (take cols) elements) i [] ∷ []) []) some
    ∙ append-nil (kernel cols (take i elements))

pub kernel_widths : (m : Matrix) (elements : List Vector) → AreMembers (width m) elements →
    All (λ row. length row ≡ m.cols) (kernel m.cols elements)
kernel_widths m elements h =
    All-map (λ row. length row ≡ m.cols) (take m.cols) (filter (λ z. is_zero (drop m.cols z)) elements)
    (All-weaker (λ z. (length z ≡ width m) × IsNarrow z) (λ z. length (take m.cols z) ≡ m.cols)
    (λ z k. simp length-take (omega (arith, k.0))) (filter (λ z. is_zero (drop m.cols z)) elements)
    (All-filter (λ z. is_zero (drop m.cols z)) (λ z. (length z ≡ width m) × IsNarrow z) elements h))

pub kernel_narrow : (m : Matrix) (elements : List Vector) → AreMembers (width m) elements →
    All IsNarrow (kernel m.cols elements)
kernel_narrow m elements h =
    All-map IsNarrow (take m.cols) (filter (λ z. is_zero (drop m.cols z)) elements)
    (All-weaker (λ z. (length z ≡ width m) × IsNarrow z) (λ z. IsNarrow (take m.cols z))
    (λ z k. All-take (λ a. unsigned_abs a < 2 ^ 31) m.cols z k.1) (filter (λ z. is_zero (drop m.cols z)) elements)
    (All-filter (λ z. is_zero (drop m.cols z)) (λ z. (length z ≡ width m) × IsNarrow z) elements h))

-- ---- the rows of the kernel, one element after the other

pub flat_push : (rows : List Vector) (v : Vector) → flat_map (λ row. row) (rows ++ v ∷ []) ≡ flat_map (λ row. row) rows
    ++ v
flat_push [] v = append-nil v
flat_push (row ∷ rows) v = ap (λ t. row ++ t) (flat_push rows v)
    ∙ sym (append_assoc row (flat_map (λ (r : Vector). r) rows) v)

-- the rows of the kernel that the first elements give stand one after the other in the entries
pub record IsRead (cols : ℕ) (elements : List Vector) (i rows : ℕ) (entries : Vector) : Type 0 where
  pub few : rows ≤ i
  pub count : rows ≡ length (kernel cols (take i elements))
  pub flat : entries ≡ flat_map (λ row. row) (kernel cols (take i elements))

pub read_none : (cols : ℕ) (elements : List Vector) (entries : Vector) → entries ≡ [] → IsRead cols elements 0 0 entries
read_none cols elements entries e = record { few = omega arith; count = refl; flat = e }

pub read_taken : (cols i rows : ℕ) (elements : List Vector) (entries longer image vector : Vector) →
    IsRead cols elements i rows entries → slice_get (map (drop cols) elements) i ≡ Some image →
    slice_get (map (take cols) elements) i ≡ Some vector → is_zero image ≡ true → longer ≡ entries ++ vector →
    IsRead cols elements (i + 1) (rows + 1) longer
read_taken cols i rows elements entries longer image vector h e f none g =
    let more = kernel_taken cols i elements image vector e f none in
    record {
      few = omega (arith, h.few);
      count = omega (arith, h.count, ap length more, length_push (kernel cols (take i elements)) vector);
      flat = g ∙ ap (λ t. t ++ vector) h.flat ∙ sym (flat_push (kernel cols (take i elements)) vector)
          ∙ ap (flat_map (λ (row : Vector). row)) (sym more);
    }

pub read_left : (cols i rows : ℕ) (elements : List Vector) (entries image : Vector) →
    IsRead cols elements i rows entries → slice_get (map (drop cols) elements) i ≡ Some image → is_zero image ≡ false →
    IsRead cols elements (i + 1) rows entries
read_left cols i rows elements entries image h e some =
    let same = kernel_left cols i elements image e some in
    record {
      few = omega (arith, h.few);
      count = h.count ∙ ap length (sym same);
      flat = h.flat ∙ ap (flat_map (λ (row : Vector). row)) (sym same);
    }

-- all elements are read: the matrix of these entries has the rows of the kernel
pub read_fits : (m : Matrix) (i rows cols : ℕ) (elements : List Vector) (entries : Vector) →
    IsRead m.cols elements i rows entries → length elements ≤ i → cols ≡ m.cols → AreMembers (width m) elements →
    length entries ≡ rows * cols
read_fits m i rows cols elements entries h low e members =
    entries_fit rows cols (kernel m.cols (take i elements)) entries h.count h.flat
    (subst (λ n. All (λ row. length row ≡ n) (kernel m.cols (take i elements))) (sym e)
    (subst (λ vs. All (λ row. length row ≡ m.cols) (kernel m.cols vs)) (sym (take_all i elements low))
    (kernel_widths m elements members)))

pub read_rows : (m : Matrix) (i rows cols : ℕ) (elements : List Vector) (entries : Vector) →
    IsRead m.cols elements i rows entries → length elements ≤ i → cols ≡ m.cols → AreMembers (width m) elements →
    rows_of rows cols entries ≡ kernel m.cols elements
read_rows m i rows cols elements entries h low e members =
    rows_again rows cols (kernel m.cols (take i elements)) entries h.count h.flat
    (subst (λ n. All (λ row. length row ≡ n) (kernel m.cols (take i elements))) (sym e)
    (subst (λ vs. All (λ row. length row ≡ m.cols) (kernel m.cols vs)) (sym (take_all i elements low))
    (kernel_widths m elements members)))
    ∙ ap (kernel m.cols) (take_all i elements low)
