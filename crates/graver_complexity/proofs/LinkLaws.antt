-- Laws of the link matrix, which is made row by row and entry by entry.
use Rattle.std.proofs.Common.{◌≡◌, ℕ, zero, suc, ◌+◌, ◌*◌, ◌<◌, ◌≤◌, ◌^◌, ℤ, unsigned_abs, List, [], ◌∷◌, ◌++◌, length}
use Rattle.std.proofs.Common.{map, take, ap, arith, sym, ◌∙◌, subst, Some, slice_get, option_map, flat_map}
use Rattle.std.proofs.Common.{append_assoc, inl, inr, Result, Ok, Err, IfErr, IsErrAnd}
use Rattle.std.specs.List.{All}
use Rattle.std.proofs.lemmas.Bool.{cases_lt}
use Rattle.std.proofs.lemmas.List.{take_more, take_all, take-map, map-append, append-nil, length-map}
use Rattle.std.proofs.lemmas.List.Elements.{All-nil, All-push, All-map, All-from_get_or}
use Rattle.std.proofs.lemmas.Grind.{flat_map-append}
use Rattle.std.proofs.lemmas.Option.{slice_get-map, slice_get_within, get_or_from_slice_get}
use Rattle.lattice_theory.specs.Vectors.{Vector, dot}
use Rattle.lattice_theory.specs.Matrices.{Matrix, rows_of}
use Rattle.lattice_theory.specs.BasisLimits.{IsNarrow}
use Rattle.run_theory.specs.Links.{link_matrix}
use Rattle.run_theory.specs.Limits.{IsFirstWide}
use Rattle.lattice_laws.proofs.Places.{slice_get-All}
use Rattle.pottier.proofs.BasisLaws.{entries_fit, matrix_again}
use Rattle.graver_complexity.specs.declared.fault.LinkFault.{LinkFault}
use Rattle.graver_complexity.specs.declared.fault.LinkFault.TheVariants.{WideEntry, Memory}
use Rattle.graver_complexity.specs.Refusals.{IsFirstWideOf, IsWideInRow, IsWideEntry}

-- ---- places

module _ {A : Type 0} where
  -- the first elements with the next one
  take_next : (xs : List A) (i : ℕ) (x : A) → slice_get xs i ≡ Some x → take (i + 1) xs ≡ take i xs ++ x ∷ []
  take_next xs i x there =
      take_more xs i x (slice_get_within xs i x there)
      ∙ ap (λ y. take i xs ++ y ∷ []) (get_or_from_slice_get xs i x x there)

  -- what stands before a place is among the first elements
  slice_get-take : (xs : List A) (i k : ℕ) (x : A) → k < i → slice_get xs k ≡ Some x → slice_get (take i xs) k ≡ Some x
  slice_get-take xs zero k x below there = absurd (omega arith)
  slice_get-take [] (suc i) k x below there = there
  slice_get-take (y ∷ xs) (suc i) zero x below there = there
  slice_get-take (y ∷ xs) (suc i) (suc k) x below there = slice_get-take xs i k x (omega arith) there

-- ---- one row, entry by entry

-- the products of the row and the first vectors are added, and narrow
pub record AreProducts (link : Vector) (vectors : List Vector) (j : ℕ) (old new : Vector) : Type 0 where
  pub made : new ≡ old ++ map (dot link) (take j vectors)
  pub narrow : IsNarrow (map (dot link) (take j vectors))

pub products_none : (link : Vector) (vectors : List Vector) (old : Vector) → AreProducts link vectors 0 old old
products_none link vectors old = record {
  made = sym (append-nil old);
  narrow = All-nil (λ a. unsigned_abs a < 2 ^ 31);
}

module _ (link : Vector) (vectors : List Vector) (j : ℕ) where
  pub products_more : (v old new newer : Vector) (entry : ℤ) → slice_get vectors j ≡ Some v → entry ≡ dot link v →
      unsigned_abs (dot link v) < 2 ^ 31 → newer ≡ new ++ entry ∷ [] → AreProducts link vectors j old new →
      AreProducts link vectors (j + 1) old newer
  products_more v old new newer entry there is small pushed so_far =
      let done = map (dot link) (take j vectors) in
      let next : map (dot link) (take (j + 1) vectors) ≡ done ++ dot link v ∷ [] =
      ap (map (dot link)) (take_next vectors j v there) ∙ map-append (dot link) (take j vectors) (v ∷ []) in
      record {
        made =
            pushed ∙ (λ i. so_far.made i ++ is i ∷ []) ∙ append_assoc old done (dot link v ∷ [])
            ∙ ap (λ t. old ++ t) (sym next);
        narrow =
            subst IsNarrow (sym next)
            (All-push (λ a. unsigned_abs a < 2 ^ 31) done (dot link v) so_far.narrow small);
      }

  pub products_all : (old new : Vector) → length vectors ≤ j → AreProducts link vectors j old new →
      (new ≡ old ++ map (dot link) vectors) × IsNarrow (map (dot link) vectors)
  products_all old new all so_far =
      let same = take_all j vectors all in (
        so_far.made ∙ ap (λ vs. old ++ map (dot link) vs) same,
        subst (λ vs. IsNarrow (map (dot link) vs)) same so_far.narrow,
      )

  -- where the next product is too large, it is the first
  pub wide_product : (v old new : Vector) (col : ℕ) → slice_get vectors j ≡ Some v → col ≡ j + 1 →
      (unsigned_abs (dot link v) < 2 ^ 31 → ⊥) → AreProducts link vectors j old new →
      IsFirstWideOf (map (dot link) vectors) col
  wide_product v old new col there numbered large so_far = record {
    j = j;
    numbered = numbered;
    entry = dot link v;
    there = slice_get-map (dot link) vectors j ∙ ap (option_map (dot link)) there;
    wide = elim (cases_lt (unsigned_abs (dot link v)) (2 ^ 31)) [ inl small ↦ absurd (large small) | inr wide ↦ wide ];
    before = subst IsNarrow (sym (take-map (dot link) j vectors)) so_far.narrow;
  }

-- ---- the rows

-- the rows of the link matrix for some linking rows
abbrev pub link_rows : List Vector → List Vector → List Vector
link_rows vectors rows = map (λ row. map (dot row) vectors) rows

-- the first rows of the link matrix stand one after the other in the entries, and are narrow
pub record AreRows (vectors rows : List Vector) (i : ℕ) (entries : Vector) : Type 0 where
  pub made : entries ≡ flat_map (λ row. row) (link_rows vectors (take i rows))
  pub narrow : All IsNarrow (link_rows vectors (take i rows))

pub rows_none : (vectors rows : List Vector) (entries : Vector) → entries ≡ [] → AreRows vectors rows 0 entries
rows_none vectors rows entries none = record { made = none; narrow = All-nil IsNarrow }

module _ (vectors rows : List Vector) (i : ℕ) where
  pub rows_more : (row entries newer : Vector) → slice_get rows i ≡ Some row →
      newer ≡ entries ++ map (dot row) vectors →
      IsNarrow (map (dot row) vectors) → AreRows vectors rows i entries → AreRows vectors rows (i + 1) newer
  rows_more row entries newer there added small so_far =
      let here = map (dot row) vectors in
      let done = link_rows vectors (take i rows) in
      let next : link_rows vectors (take (i + 1) rows) ≡ done ++ here ∷ [] =
      ap (link_rows vectors) (take_next rows i row there)
      ∙ map-append (λ (r : Vector). map (dot r) vectors) (take i rows) (row ∷ []) in
      let flat : flat_map (λ r. r) (done ++ here ∷ []) ≡ flat_map (λ r. r) done ++ here =
      flat_map-append (λ (r : Vector). r) done (here ∷ [])
      ∙ ap (λ t. flat_map (λ (r : Vector). r) done ++ t) (append-nil here) in
      record {
        made = added ∙ ap (λ t. t ++ here) so_far.made ∙ sym flat ∙ ap (flat_map (λ (r : Vector). r)) (sym next);
        narrow = subst (All IsNarrow) (sym next) (All-push IsNarrow done here so_far.narrow small);
      }

  -- the first entry of the next row that is too large is the first of the matrix
  wide_row : (cols : ℕ) (row entries : Vector) (number col : ℕ) → slice_get rows i ≡ Some row → number ≡ i + 1 →
      IsFirstWideOf (map (dot row) vectors) col → AreRows vectors rows i entries →
      IsFirstWide (record { cols = cols; rows = link_rows vectors rows }) number col
  wide_row cols row entries number col there numbered wide so_far =
      let here = map (dot row) vectors in
      let all = link_rows vectors rows in
      let above : All IsNarrow (take i all) =
      subst (All IsNarrow) (sym (take-map (λ (r : Vector). map (dot r) vectors) i rows)) so_far.narrow in
      record {
        i = i;
        j = wide.j;
        numbered = (numbered, wide.numbered);
        entries = here;
        entry = wide.entry;
        there = (
          slice_get-map (λ (r : Vector). map (dot r) vectors) rows i
              ∙ ap (option_map (λ (r : Vector). map (dot r) vectors)) there,
          wide.there,
        );
        wide = wide.wide;
        above = λ k v below at. slice_get-All IsNarrow (take i all) k v (slice_get-take all i k v below at) above;
        before = λ k a below at.
            slice_get-All (λ b. unsigned_abs b < 2 ^ 31) (take wide.j here) k a
            (slice_get-take here wide.j k a below at)
            wide.before;
      }

  -- so the fault of the next row is that of the matrix
  pub wide_fault : (cols : ℕ) (row entries : Vector) (number : ℕ) (fault : LinkFault) → slice_get rows i ≡ Some row →
      number ≡ i + 1 → IsWideInRow number (map (dot row) vectors) fault → AreRows vectors rows i entries →
      IsWideEntry (record { cols = cols; rows = link_rows vectors rows }) fault
  wide_fault cols row entries number (WideEntry r col) there numbered (is, wide) so_far =
      wide_row cols row entries r col there (is ∙ numbered) wide so_far
  wide_fault cols row entries number Memory there numbered wide so_far = tt

-- what holds of the fault that is handed on
pub of_error : {A : Type 0} (r : Result A LinkFault) (fault : LinkFault) (P : LinkFault → Type 0) →
    IsErrAnd r (λ e. e ≡ fault) → P fault → IfErr r P
of_error (Ok a) fault P is held = tt
of_error (Err e) fault P is held = subst P (sym is) held

-- ---- the matrix of the entries

-- each row has an entry for each vector
link_widths : (vectors rows : List Vector) → All (λ row. length row ≡ length vectors) (link_rows vectors rows)
link_widths vectors rows =
    All-map (λ (row : Vector). length row ≡ length vectors) (λ (r : Vector). map (dot r) vectors) rows
    (All-from_get_or (λ (r : Vector). length (map (dot r) vectors) ≡ length vectors) rows []
    (λ k below. length-map vectors (dot _)))

module _ (a1 : Matrix) (vectors : List Vector) (i : ℕ) (entries : Vector) (all : length a1.rows ≤ i)
    (so_far : AreRows vectors a1.rows i entries) where
  whole : entries ≡ flat_map (λ row. row) (link_rows vectors a1.rows)
  whole = so_far.made ∙ ap (λ rows. flat_map (λ (r : Vector). r) (link_rows vectors rows)) (take_all i a1.rows all)

  count_is : (count : ℕ) → count ≡ length a1.rows → count ≡ length (link_rows vectors a1.rows)
  count_is count e = e ∙ sym (length-map a1.rows (λ (r : Vector). map (dot r) vectors))

  pub rows_fit : (count cols : ℕ) → count ≡ length a1.rows → cols ≡ length vectors → length entries ≡ count * cols
  rows_fit count cols e f =
      entries_fit count cols (link_rows vectors a1.rows) entries (count_is count e) whole
      (subst (λ n. All (λ (row : Vector). length row ≡ n) (link_rows vectors a1.rows)) (sym f)
      (link_widths vectors a1.rows))

  pub rows_whole : (count cols : ℕ) → count ≡ length a1.rows → cols ≡ length vectors →
      record { cols = cols; rows = rows_of count cols entries } ≡ link_matrix a1 vectors
  rows_whole count cols e f =
      matrix_again (link_matrix a1 vectors) count cols entries (count_is count e) f whole
      (subst (λ n. All (λ (row : Vector). length row ≡ n) (link_rows vectors a1.rows)) (sym f)
      (link_widths vectors a1.rows))

  pub rows_narrow : All IsNarrow (link_rows vectors a1.rows)
  rows_narrow = subst (λ rows. All IsNarrow (link_rows vectors rows)) (take_all i a1.rows all) so_far.narrow
