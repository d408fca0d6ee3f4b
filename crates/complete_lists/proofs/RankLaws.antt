-- Laws of rows that are looked through in another order.
use Rattle.std.proofs.Common.{◌≡◌, ℕ, ◌<◌, ◌≤◌, ◌+◌, ◌&&◌, Bool, List, [], ◌∷◌, ◌++◌, length, take, get_or, Some}
use Rattle.std.proofs.Common.{slice_get, refl, ap, sym, ◌∙◌, subst, Option, None, nat_lt, ◌||◌, suc, true}
use Rattle.std.specs.List.{All, list_all, list_any}
use Rattle.std.specs.List.Sorted.{IsPermutation}
use Rattle.std.proofs.lemmas.List.{take_more, take_all, map_push}
use Rattle.std.proofs.lemmas.List.Elements.{All-push}
use Rattle.std.proofs.lemmas.List.Sorted.{list_any-IsPermutation, All-permutation, IsPermutation-map}
use Rattle.std.proofs.lemmas.Option.{slice_get-get_or, slice_get-map}
use Rattle.lattice_theory.specs.Vectors.{Vector, add, opposite}
use Rattle.lattice_laws.proofs.Places.{slice_get-All}
use Rattle.criterion_laws.specs.Prefixes.{first_clash, is_below_in, clash_settles, pair_settles, clashes_settle}
use Rattle.complete_lists.specs.declared.ranked.Ranked.{Ranked}
use Rattle.complete_lists.specs.Ranks.{rows_in}
use Rattle.complete_lists.proofs.ScanLaws.{same_row}

-- the row that is read at a place, and its width
module _ (rs : List Ranked) (i : ℕ) (x : Ranked) (row : Vector) (low : i < length rs)
    (read : row ≡ (get_or rs i x).row.items) where
  pub row-there : slice_get (rows_in rs) i ≡ Some row
  row-there =
      slice_get-map (λ r. r.row.items) rs i
      ∙ ap (λ o. elim o [ Some r ↦ Some r.row.items | None ↦ None ]) (slice_get-get_or rs i x low)
      ∙ ap Some (sym read)

  pub width-there : (cols : ℕ) → All (λ (v : Vector). length v ≡ cols) (rows_in rs) → length row ≡ cols
  width-there cols widths = slice_get-All (λ (v : Vector). length v ≡ cols) (rows_in rs) i row row-there widths

-- one row more
pub rows-more : (rows : List Vector) (rs more : List Ranked) (i : ℕ) (x : Ranked) →
    slice_get rows i ≡ Some x.row.items → i < length rows →
    rows_in rs ≡ take i rows → more ≡ rs ++ x ∷ [] → rows_in more ≡ take (i + 1) rows
rows-more rows rs more i x there low so_far is =
    let same = same_row rows i (get_or rows i []) x.row.items (slice_get-get_or rows i [] low) there in
    ap rows_in is ∙ map_push (λ r. r.row.items) rs x ∙ (λ k. so_far k ++ sym same k ∷ [])
    ∙ sym (take_more rows i [] low)

pub rows-sorted : (rows : List Vector) (rs sorted : List Ranked) (i : ℕ) → rows_in rs ≡ take i rows →
    length rows ≤ i → IsPermutation rs sorted → IsPermutation rows (rows_in sorted)
rows-sorted rows rs sorted i all past order =
    subst (λ vs. IsPermutation vs (rows_in sorted)) (all ∙ take_all i rows past)
    (IsPermutation-map (λ r. r.row.items) rs sorted order)

-- so with their widths
pub widths-more : (cols : ℕ) (rs more : List Ranked) (x : Ranked) → length x.row.items ≡ cols →
    All (λ v. length v ≡ cols) (rows_in rs) → more ≡ rs ++ x ∷ [] → All (λ v. length v ≡ cols) (rows_in more)
widths-more cols rs more x width so_far is =
    subst (All (λ (v : Vector). length v ≡ cols)) (sym (ap rows_in is ∙ map_push (λ r. r.row.items) rs x))
    (All-push (λ (v : Vector). length v ≡ cols) (rows_in rs) x.row.items so_far width)

pub widths-sorted : (cols : ℕ) (rs sorted : List Ranked) → IsPermutation rs sorted →
    All (λ v. length v ≡ cols) (rows_in rs) → All (λ v. length v ≡ cols) (rows_in sorted)
widths-sorted cols rs sorted order widths =
    All-permutation (λ (v : Vector). length v ≡ cols) (rows_in rs) (rows_in sorted)
    (IsPermutation-map (λ r. r.row.items) rs sorted order) widths

-- what settles a clash does so in any order
module _ (cols : ℕ) (us vs : List Vector) (order : IsPermutation us vs) where
  settles : List Vector → Vector → Vector → Option ℕ → Bool
  settles rows f g None = true
  settles rows f g (Some at) = nat_lt at cols || list_any (is_below_in (suc at) (add f g)) rows

  settles-any : (f g : Vector) (o : Option ℕ) → settles us f g o ≡ settles vs f g o
  unfolding settles
  settles-any f g None = refl
  settles-any f g (Some at) =
      ap (λ t. nat_lt at cols || t) (list_any-IsPermutation (is_below_in (suc at) (add f g)) us vs order)

  clash-any : (f g : Vector) → clash_settles cols us f g ≡ clash_settles cols vs f g
  unfolding settles
  clash-any f g = settles-any f g (first_clash f g)

  pairs-any : (f : Vector) (gs : List Vector) →
      list_all (pair_settles cols us f) gs ≡ list_all (pair_settles cols vs f) gs
  pairs-any f [] = refl
  pairs-any f (g ∷ gs) = λ i. (clash-any f g i && clash-any f (opposite g) i) && pairs-any f gs i

  pub clashes-any : (fs : List Vector) → clashes_settle cols us fs ≡ clashes_settle cols vs fs
  clashes-any [] = refl
  clashes-any (f ∷ fs) = λ i. pairs-any f fs i && clashes-any fs i
