-- The link matrix, entry by entry and row by row; and that no list of narrow vectors is complete for a wide one.
use Rattle.std.proofs.Common.{◌≡◌, ℕ, ◌+◌, ◌<◌, ◌≤◌, ◌^◌, pos, unsigned_abs, true, false, List, [], ◌∷◌, ◌++◌, length}
use Rattle.std.proofs.Common.{map, take, get_or, ap, arith, sym, ◌∙◌, subst, Contains, Some, slice_get, inl, inr}
use Rattle.std.proofs.Common.{length-append}
use Rattle.std.specs.List.{All}
use Rattle.std.proofs.lemmas.List.{length-map, map_more, get_or-map, get_or-append-add, get_or_default}
use Rattle.std.proofs.lemmas.List.Elements.{All-map, All-push, All-contains, Contains-get_or}
use Rattle.std.proofs.lemmas.Option.{slice_get-get_or, slice_get_within}
use Rattle.lattice_theory.specs.Vectors.{Vector, dot}
use Rattle.lattice_theory.specs.Matrices.{Matrix, element, product, unit_vector}
use Rattle.lattice_theory.specs.Lattices.{is_complete_for}
use Rattle.lattice_theory.specs.BasisLimits.{IsNarrow}
use Rattle.lattice_laws.proofs.Tests.{true_or_false}
use Rattle.run_theory.specs.Links.{link_matrix}
use Rattle.criterion_laws.proofs.Prefixes.{complete_listed}
use Rattle.complete_lists.proofs.ElementLaws.{dot-unit}
use Rattle.listed_links.proofs.RowLaws.{Stands, stands-push}

-- one more of a list of images
pub images-more : {A : Type 0} (f : Vector → A) (xs : List Vector) (i : ℕ) (x : Vector) → slice_get xs i ≡ Some x →
    map f (take (i + 1) xs) ≡ map f (take i xs) ++ f x ∷ []
images-more f xs i x here =
    let low = slice_get_within xs i x here in
    let same : get_or xs i x ≡ x = cc (slice_get-get_or xs i x low) in
    map_more f xs i x low ∙ ap (λ v. map f (take i xs) ++ f v ∷ []) same

-- a wide product
pub not-narrow : (gens : List Vector) (row : Vector) (i : ℕ) (v : Vector) → slice_get gens i ≡ Some v →
    2 ^ 31 ≤ unsigned_abs (dot row v) → IsNarrow (map (dot row) gens) → ⊥
not-narrow gens row i v here wide narrow =
    let low = slice_get_within gens i v here in
    let same : get_or gens i v ≡ v = cc (slice_get-get_or gens i v low) in
    let value : get_or (map (dot row) gens) i (pos 0) ≡ dot row v =
    get_or-map (dot row) gens i v (pos 0) low ∙ ap (dot row) same in
    absurd (omega (arith, wide, ap unsigned_abs value, narrow i (pos 0) (omega (arith, length-map gens (dot row)))))

-- a row of wide images
pub not-all-narrow : (rows : List Vector) (f : Vector → Vector) (i : ℕ) (row : Vector) → slice_get rows i ≡ Some row →
    (IsNarrow (f row) → ⊥) → All IsNarrow (map f rows) → ⊥
not-all-narrow rows f i row here wide narrow =
    let low = slice_get_within rows i row here in
    let same : get_or rows i row ≡ row = cc (slice_get-get_or rows i row low) in
    wide (subst IsNarrow (get_or-map f rows i row [] low ∙ ap f same) (narrow i [] (omega (arith, length-map rows f))))

-- ---- no list of narrow vectors is complete for a wide matrix

-- the entries of a listed element of a unit vector
column-narrow : (m : Matrix) (j : ℕ) → IsNarrow (element m (unit_vector m.cols j)) → (row : Vector) →
    Contains m.rows row → unsigned_abs (dot row (unit_vector m.cols j)) < 2 ^ 31
column-narrow m j narrow row (k, low, is) =
    let unit = unit_vector m.cols j in
    let images = product m unit in
    let at = length unit + k in
    let size : at < length (unit ++ images) =
    omega (arith, length-append unit images, length-map m.rows (λ r. dot r unit)) in
    let read : get_or (unit ++ images) at (pos 0) ≡ dot row unit =
    get_or-append-add unit images k (pos 0) ∙ get_or-map (λ r. dot r unit) m.rows k row (pos 0) low
    ∙ ap (λ r. dot r unit) is in
    omega (arith, ap unsigned_abs (sym read), narrow at (pos 0) size)

-- each row of a matrix with a complete list of narrow vectors is narrow
pub complete-narrow : (m : Matrix) (basis : List Vector) → All IsNarrow basis →
    All (λ row. length row ≡ m.cols) m.rows →
    is_complete_for m basis ≡ true → All IsNarrow m.rows
complete-narrow m basis narrow widths complete i d low j e within =
    let row = get_or m.rows i d in
    let wide : length row ≡ m.cols = widths i d low in
    let listed = complete_listed m basis complete j (omega arith) in
    let unit = unit_vector m.cols j in
    let element_narrow = All-contains IsNarrow basis (element m unit) narrow listed in
    let entry = column-narrow m j element_narrow row (Contains-get_or m.rows i d low) in
    let read : dot row unit ≡ get_or row j (pos 0) = dot-unit row m.cols j within wide in
    let same : get_or row j e ≡ get_or row j (pos 0) = get_or_default row j e (pos 0) within in
    omega (arith, entry, ap unsigned_abs read, ap unsigned_abs same)

-- so a wide link matrix has no complete list of narrow vectors
pub wide-incomplete : (link : Matrix) (gens basis : List Vector) → All IsNarrow basis →
    (All IsNarrow (link_matrix link gens).rows → ⊥) → is_complete_for (link_matrix link gens) basis ≡ false
wide-incomplete link gens basis narrow wide = elim (true_or_false (is_complete_for (link_matrix link gens) basis)) [
  | inl complete ↦ absurd (wide (complete-narrow (link_matrix link gens) basis narrow widths complete))
  | inr incomplete ↦ incomplete
]
  where
    widths : All (λ row. length row ≡ length gens) (map (λ row. map (dot row) gens) link.rows)
    widths =
        All-map (λ row. length row ≡ length gens) (λ row. map (dot row) gens) link.rows
        (λ k d low. length-map gens (dot (get_or link.rows k d)))

-- ---- rows of images

-- a row of the link matrix more
pub matrix-more : (link : List Vector) (gens : List Vector) (i : ℕ) (row images longer entries : Vector) →
    slice_get link i ≡ Some row → images ≡ map (dot row) gens → IsNarrow images → longer ≡ entries ++ images →
    Stands (length gens) (map (λ r. map (dot r) gens) (take i link)) i entries →
    All IsNarrow (map (λ r. map (dot r) gens) (take i link)) →
    Stands (length gens) (map (λ r. map (dot r) gens) (take (i + 1) link)) (i + 1) longer
    × All IsNarrow (map (λ r. map (dot r) gens) (take (i + 1) link))
matrix-more link gens i row images longer entries here are narrow is stands all =
    let f = λ (r : Vector). map (dot r) gens in
    let more : map f (take (i + 1) link) ≡ map f (take i link) ++ images ∷ [] =
    images-more f link i row here ∙ ap (λ v. map f (take i link) ++ v ∷ []) (sym are) in
    let wide : length images ≡ length gens = ap length are ∙ length-map gens (dot row) in (
      subst (λ list. Stands (length gens) list (i + 1) longer) (sym more)
          (stands-push (length gens) (map f (take i link)) i entries longer images stands is wide),
      subst (All IsNarrow) (sym more) (All-push IsNarrow (map f (take i link)) images all narrow),
    )
