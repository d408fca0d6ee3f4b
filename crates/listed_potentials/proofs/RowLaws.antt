-- Lists that are made one after the other, and facts of one brick.
use Rattle.std.proofs.Common.{◌≡◌, ℕ, zero, suc, ◌+◌, ◌<◌, ◌≤◌, ◌^◌, ℤ, ◌-ℤ◌, unsigned_abs, Bool, true, false, ◌&&◌}
use Rattle.std.proofs.Common.{List, [], ◌∷◌, ◌++◌, length, map, take, drop, get_or, Option, Some, None, cond, refl, ap}
use Rattle.std.proofs.Common.{arith, sym, ◌∙◌, subst, slice_get, option_map, All, IfSome, pos}
use Rattle.std.proofs.lemmas.Int.{ints}
use Rattle.std.proofs.lemmas.List.{drop_all, take_all, take_more, map_more, map_push, length-map, get_or-map}
use Rattle.std.proofs.lemmas.List.Elements.{All-push, All-from_recursion, recursion_from_All}
use Rattle.std.proofs.lemmas.Option.{slice_get-get_or, slice_get_within, slice_get-map, get_or_from_slice_get}
use Rattle.fold_theory.specs.declared.Phase.{Phase}
use Rattle.fold_theory.specs.declared.Phase.TheVariants.{Closed}
use Rattle.lattice_theory.specs.Lists.{all_zip}
use Rattle.lattice_theory.specs.Vectors.{Vector, add, zeros}
use Rattle.std.specs.List.{AllZip, AllByRecursion}
use Rattle.fold_theory.specs.Programs.{Program, Brick, Bricks, IsWithin, is_within, brick_cost}
use Rattle.run_theory.specs.Walks.{brick_change}
use Rattle.run_theory.specs.Checker.{at_most, potential_of, layers_hold, starts_at_zero}
use Rattle.lattice_laws.proofs.Places.{drop-at, if_some}
use Rattle.listed_sums.specs.Places.{place_in, vectors_of}
use Rattle.listed_sums.proofs.RowLaws.{length-vectors_of}
use Rattle.fold_program.specs.Places.{OfBrick}
use Rattle.fold_program.specs.Refusals.{brick_magnitude, total_magnitude}
use Rattle.listed_potentials.specs.Moves.{change_of, changes_of, all_changes, places_of, there, move_holds, row_holds}
use Rattle.listed_potentials.specs.Columns.{cell, column_holds, columns_hold}
use Rattle.listed_potentials.specs.Ends.{ends_hold}
use Rattle.fold_program.proofs.PlaceLaws.{for_brick, small_in_total}
use Rattle.listed_potentials.proofs.TableLaws.{potential_there, last_row, layers-test}

-- ---- lists

-- one more of a list of images
pub images-more : {A B : Type 0} (f : A → B) (xs : List A) (i : ℕ) (x : A) → slice_get xs i ≡ Some x →
    map f (take (i + 1) xs) ≡ map f (take i xs) ++ f x ∷ []
images-more f xs i x here =
    let low = slice_get_within xs i x here in
    let same : get_or xs i x ≡ x = cc (slice_get-get_or xs i x low) in
    map_more f xs i x low ∙ ap (λ v. map f (take i xs) ++ f v ∷ []) same

pub next-image : {A B : Type 0} (f : A → B) (xs : List A) (i : ℕ) (x : A) (done longer : List B) (y : B) →
    slice_get xs i ≡ Some x → done ≡ map f (take i xs) → longer ≡ done ++ y ∷ [] → y ≡ f x →
    longer ≡ map f (take (i + 1) xs)
next-image f xs i x done longer y here so_far is same =
    is ∙ (λ k. so_far k ++ same k ∷ []) ∙ sym (images-more f xs i x here)

pub all-images : {A B : Type 0} (f : A → B) (xs : List A) (i : ℕ) (done : List B) → done ≡ map f (take i xs) →
    length xs ≤ i → done ≡ map f xs
all-images f xs i done so_far past = so_far ∙ ap (map f) (take_all i xs past)

pub all-next : {B : Type 0} (P : B → Type 0) (done longer : List B) (y : B) → longer ≡ done ++ y ∷ [] → All P done →
    P y → All P longer
all-next P done longer y is so_far here = subst (All P) (sym is) (All-push P done y so_far here)

-- ---- one brick

-- where the move stays within the bounds, the change is that of the costs
pub closed_change : (p : Program) (i : ℕ) (v u : Vector) (before after : ℤ) → OfBrick p i (λ b. true ≡ is_within b u) →
    OfBrick p i (λ b. after ≡ brick_cost b u) → OfBrick p i (λ b. before ≡ brick_cost b v) →
    OfBrick p i (λ b. Some (after -ℤ before) ≡ change_of Closed b v u)
closed_change p i v u before after within is was =
    let b = within.0 in
    let after_is = for_brick p i (λ c. after ≡ brick_cost c u) is b within.1 in
    let before_is = for_brick p i (λ c. before ≡ brick_cost c v) was b within.1 in (
      b,
      within.1,
      (λ k. Some (after_is k -ℤ before_is k))
          ∙ ap (λ t. cond t (Some (brick_change Closed b v u)) None) within.2,
    )

pub no_change : (p : Program) (i : ℕ) (phase : Phase) (v u : Vector) → OfBrick p i (λ b. false ≡ is_within b u) →
    OfBrick p i (λ b. None ≡ change_of phase b v u)
no_change p i phase v u outside =
    (outside.0, outside.1, ap (λ t. cond t (Some (brick_change phase (outside.0) v u)) None) outside.2)

-- such a change fits
pub change_fits : (p : Program) (i : ℕ) (a b : ℤ) → total_magnitude p ≤ 2 ^ 120 →
    OfBrick p i (λ c. unsigned_abs a ≤ brick_magnitude c) → OfBrick p i (λ c. unsigned_abs b ≤ brick_magnitude c) →
    unsigned_abs (a -ℤ b) ≤ 2 ^ 121
change_fits p i a b most first second =
    let left = small_in_total p i a most first in
    let right = small_in_total p i b most second in
    omega (arith, ints, left, right)

-- the changes of a brick at a point, among those of all
pub change-at : (phase : Phase) (zs : List Vector) (bs : List Brick) (x : Bricks) (i : ℕ) (b : Brick) (v : Vector) →
    slice_get bs i ≡ Some b → slice_get x i ≡ Some v →
    slice_get (all_changes phase zs bs x) i ≡ Some (changes_of phase zs b v)
change-at phase zs [] x i b v here there = absurd (cc)
change-at phase zs (c ∷ bs) [] i b v here there = absurd (cc)
change-at phase zs (c ∷ bs) (u ∷ x) zero b v here there =
    let same : c ≡ b = cc in
    let same_too : u ≡ v = cc in
    λ k. Some (changes_of phase zs (same k) (same_too k))
change-at phase zs (c ∷ bs) (u ∷ x) (suc i) b v here there = change-at phase zs bs x i b v here there

pub length-changes : (phase : Phase) (zs : List Vector) (bs : List Brick) (x : Bricks) → length x ≡ length bs →
    length (all_changes phase zs bs x) ≡ length bs
length-changes phase zs [] x same = refl
length-changes phase zs (b ∷ bs) [] same = absurd (omega arith)
length-changes phase zs (b ∷ bs) (v ∷ x) same = ap suc (length-changes phase zs bs x (omega arith))

-- ---- one layer after the other

pub column-at : (changes : List (List (Option ℤ))) (places : List (Option ℕ)) (j : ℕ) (rows : List (List (Option ℤ)))
    (i : ℕ) (cs row next : List (Option ℤ)) (b : Bool) → slice_get changes i ≡ Some cs → slice_get rows i ≡ Some row →
    slice_get rows (i + 1) ≡ Some next → row_holds (cell row j) cs places next ≡ b →
    column_holds (drop i changes) places j (drop i rows)
    ≡ (b && column_holds (drop (i + 1) changes) places j (drop (i + 1) rows))
column-at changes places j rows i cs row next b here there after is =
    let rest : drop (i + 1) rows ≡ next ∷ drop (i + 1 + 1) rows = drop-at rows (i + 1) next after in
    (λ k. column_holds (drop-at changes i cs here k) places j (first k))
    ∙ ap (λ t. t && column_holds (drop (i + 1) changes) places j (next ∷ drop (i + 1 + 1) rows)) is
    ∙ ap (λ t. b && column_holds (drop (i + 1) changes) places j t) (sym rest)
  where
    first : drop i rows ≡ row ∷ next ∷ drop (i + 1 + 1) rows
    first = drop-at rows i row there ∙ ap (λ t. row ∷ t) (drop-at rows (i + 1) next after)

pub column-end : (changes : List (List (Option ℤ))) (places : List (Option ℕ)) (j : ℕ) (rows : List (List (Option ℤ)))
    (i : ℕ) → length changes ≤ i → column_holds (drop i changes) places j (drop i rows) ≡ true
column-end changes places j rows i past =
    ap (λ cs. column_holds cs places j (drop i rows)) (drop_all i changes past)

-- one sum after the other
pub columns-at : (changes : List (List (Option ℤ))) (zs : List Vector) (rows : List (List (Option ℤ))) (i : ℕ)
    (w : Vector) (b : Bool) → slice_get zs i ≡ Some w → column_holds changes (places_of zs w) i rows ≡ b →
    columns_hold changes zs rows i (drop i zs) ≡ (b && columns_hold changes zs rows (i + 1) (drop (i + 1) zs))
columns-at changes zs rows i w b here is =
    let next : suc i ≡ i + 1 = omega arith in
    ap (columns_hold changes zs rows i) (drop-at zs i w here)
    ∙ ap (λ t. t && columns_hold changes zs rows (suc i) (drop (i + 1) zs)) is
    ∙ ap (λ n. b && columns_hold changes zs rows n (drop (i + 1) zs)) next

pub columns-end : (changes : List (List (Option ℤ))) (zs : List Vector) (rows : List (List (Option ℤ))) (i : ℕ) →
    length zs ≤ i → columns_hold changes zs rows i (drop i zs) ≡ true
columns-end changes zs rows i past = ap (columns_hold changes zs rows i) (drop_all i zs past)

-- ---- one move after the other

module _ {A B : Type 0} (test : A → B → Bool) where
  pub zip-at : (xs : List A) (ys : List B) (i : ℕ) (x : A) (y : B) (b : Bool) → slice_get xs i ≡ Some x →
      slice_get ys i ≡ Some y → test x y ≡ b →
      all_zip test (drop i xs) (drop i ys) ≡ (b && all_zip test (drop (i + 1) xs) (drop (i + 1) ys))
  zip-at xs ys i x y b here there is =
      (λ k. all_zip test (drop-at xs i x here k) (drop-at ys i y there k))
      ∙ ap (λ t. t && all_zip test (drop (i + 1) xs) (drop (i + 1) ys)) is

  pub zip-end : (xs : List A) (ys : List B) (i : ℕ) → length xs ≤ i → length ys ≤ i →
      all_zip test (drop i xs) (drop i ys) ≡ true
  zip-end xs ys i past over = (λ k. all_zip test (drop_all i xs past k) (drop_all i ys over k))

-- a move that leads to no listed sum holds
pub nowhere : (here change : Option ℤ) → move_holds here change None ≡ true
nowhere here None = refl
nowhere here (Some d) = refl

-- one move more, by what is read
pub moves-at : (here : Option ℤ) (changes : List (Option ℤ)) (places : List (Option ℕ)) (next : List (Option ℤ)) (i : ℕ)
    (o : Option (Option ℤ)) (b : Bool) → i < length changes → i < length places →
    there next (get_or places i None) ≡ o → move_holds here (get_or changes i None) o ≡ b →
    row_holds here (drop i changes) (drop i places) next
    ≡ (b && row_holds here (drop (i + 1) changes) (drop (i + 1) places) next)
moves-at here changes places next i o b low low_too leads is =
    zip-at (λ change place. move_holds here change (there next place)) changes places i (get_or changes i None)
    (get_or places i None) b (slice_get-get_or changes i None low) (slice_get-get_or places i None low_too)
    (ap (move_holds here (get_or changes i None)) leads ∙ is)

-- what is read at a place of the next layer
pub leads_to : (places : List (Option ℕ)) (next : List (Option ℤ)) (i at : ℕ) → get_or places i None ≡ Some at →
    at < length next → there next (get_or places i None) ≡ Some (get_or next at None)
leads_to places next i at is low = ap (there next) is ∙ slice_get-get_or next at None low

-- the image of what is read at a place
pub image-read : {A B : Type 0} (f : A → B) (xs : List A) (i : ℕ) (x : A) → i < length xs → x ≡ get_or xs i x →
    slice_get (map f xs) i ≡ Some (f x)
image-read f xs i x low is =
    slice_get-map f xs i ∙ ap (option_map f) (slice_get-get_or xs i x low ∙ ap Some (sym is))

-- the cell that is read of a row
pub cell-read : (rows : List (List (Option ℤ))) (i j : ℕ) (here : Option ℤ) → i < length rows →
    IfSome (slice_get rows i) (λ cells. slice_get cells j ≡ Some here) →
    (row : List (Option ℤ)) × (slice_get rows i ≡ Some row) × (cell row j ≡ here)
cell-read rows i j here low read =
    let row = get_or rows i [] in
    let there = slice_get-get_or rows i [] low in
    let is = if_some (λ cells. slice_get cells j ≡ Some here) (slice_get rows i) row there read in
    (row, there, get_or_from_slice_get row j here None is)

-- the last row of the table
pub last-read : (row : List (Option ℤ)) (rows : List (List (Option ℤ))) (last : List (Option ℤ)) →
    slice_get (row ∷ rows) (length rows) ≡ Some last → last_row row rows ≡ last
unfolding last_row
last-read row [] last there = cc
last-read row (next ∷ rows) last there = last-read next rows last there

-- a table is its first row and the others
pub first-read : (rows : List (List (Option ℤ))) (n : ℕ) → length rows ≡ 1 + n →
    (row : List (Option ℤ)) × (more : List (List (Option ℤ))) × (rows ≡ row ∷ more) × (length more ≡ n)
first-read [] n layers = absurd (omega arith)
first-read (row ∷ more) n layers = (row, more, refl, omega arith)

-- all layers, by the columns and the ends
pub layers-decide : (p : Program) (phase : Phase) (zs : List Vector) (rests : Vector) (x : Bricks)
    (rows : List (List (Option ℤ))) (last : List (Option ℤ)) → length x ≡ length p.bricks →
    length rows ≡ 1 + length p.bricks → All (λ r. length r ≡ length zs) rows →
    slice_get rows (length p.bricks) ≡ Some last →
    layers_hold p phase zs rests p.bricks x rows
    ≡ (columns_hold (all_changes phase zs p.bricks x) zs rows 0 zs && ends_hold p phase zs rests last)
layers-decide p phase zs rests x rows last points layers widths there =
    let parts = first-read rows (length p.bricks) layers in
    let widths_of =
    recursion_from_All (λ r. length r ≡ length zs) (parts.0 ∷ parts.1)
    (subst (All (λ r. length r ≡ length zs)) parts.2 widths) in
    let size : slice_get (parts.0 ∷ parts.1) (length parts.1) ≡ Some last =
    (λ i. slice_get (sym parts.2 i) (parts.3 i)) ∙ there in
    ap (layers_hold p phase zs rests p.bricks x) parts.2
    ∙ layers-test p phase zs rests p.bricks x parts.0 parts.1 points parts.3 widths_of.0 widths_of.1
    ∙ (λ i. columns_hold (all_changes phase zs p.bricks x) zs (sym parts.2 i) 0 zs
    && ends_hold p phase zs rests (last-read parts.0 parts.1 last size i))

-- where the ends fail, so do the layers
pub ends-fail : (a b c : Bool) → c ≡ (a && b) → b ≡ false → false ≡ c
ends-fail true b c is none = sym (is ∙ none)
ends-fail false b c is none = sym is

pub ends-pass : (a b c : Bool) → c ≡ (a && b) → b ≡ true → a ≡ c
ends-pass true b c is pass = sym (is ∙ pass)
ends-pass false b c is pass = sym is

-- the first potential of the sum 0
pub zero-there : (p : Program) (zs : List Vector) (rows : List (List (Option ℤ))) (at : ℕ) (zero : Vector)
    (first : Option ℤ) →
    zero ≡ zeros p.brick.cols → All (λ r. length r ≡ length zs) rows → 0 < length rows → Some at ≡ place_in zs zero →
    IfSome (slice_get rows 0) (λ cells. slice_get cells at ≡ Some first) →
    at_most (Some (pos 0)) first ≡ starts_at_zero p zs rows
zero-there p zs [] at none first is widths some place read = absurd (omega arith)
zero-there p zs (row ∷ rows) at none first is widths some place read =
    let wide : length row ≡ length zs = widths 0 row (omega arith) in
    sym (ap tested (ap (potential_of zs row) (sym is) ∙ potential_there zs row none wide
    ∙ ap (there row) (sym place) ∙ read))
  where
    tested : Option (Option ℤ) → Bool
    tested None = false
    tested (Some first) = at_most (Some (pos 0)) first

pub zero-nowhere : (p : Program) (zs : List Vector) (rows : List (List (Option ℤ))) (zero : Vector) →
    zero ≡ zeros p.brick.cols → All (λ r. length r ≡ length zs) rows → None ≡ place_in zs zero →
    false ≡ starts_at_zero p zs rows
zero-nowhere p zs [] none is widths place = refl
zero-nowhere p zs (row ∷ rows) none is widths place =
    let wide : length row ≡ length zs = widths 0 row (omega arith) in
    sym (ap tested (ap (potential_of zs row) (sym is) ∙ potential_there zs row none wide
    ∙ ap (there row) (sym place)))
  where
    tested : Option (Option ℤ) → Bool
    tested None = false
    tested (Some first) = at_most (Some (pos 0)) first

-- each row of the table has a cell for each sum
pub widths-of : (sums : List Vector) (rows : List (List (Option ℤ))) (cols : ℕ) → All (λ r. length r ≡ cols) rows →
    cols ≡ length sums → All (λ r. length r ≡ length (vectors_of sums)) rows
widths-of sums rows cols widths size =
    subst (λ n. All (λ r. length r ≡ n) rows) (size ∙ sym (length-vectors_of sums)) widths

pub changes-of-width : (phase : Phase) (zs : List Vector) (bs : List Brick) (x : Bricks)
    (css : List (List (Option ℤ))) →
    css ≡ all_changes phase zs bs x → All (λ cs. length cs ≡ length zs) css
changes-of-width phase zs bs x css are =
    subst (All (λ cs. length cs ≡ length zs)) (sym are)
    (All-from_recursion (λ cs. length cs ≡ length zs) (all_changes phase zs bs x) (over bs x))
  where
    over : (bs : List Brick) (x : Bricks) → AllByRecursion (λ cs. length cs ≡ length zs) (all_changes phase zs bs x)
    over [] x = tt
    over (b ∷ bs) [] = tt
    over (b ∷ bs) (v ∷ x) = (length-map zs (λ h. change_of phase b v (add v h)), over bs x)

-- each vector of a point within the bounds is
pub within-at : (bs : List Brick) (x : Bricks) (i : ℕ) (b : Brick) (v : Vector) → AllZip IsWithin bs x →
    slice_get bs i ≡ Some b → slice_get x i ≡ Some v → IsWithin b v
within-at [] x i b v within here there = absurd (cc)
within-at (c ∷ bs) [] i b v within here there = absurd (cc)
within-at (c ∷ bs) (u ∷ x) zero b v within here there =
    let same : c ≡ b = cc in
    let same_too : u ≡ v = cc in
    subst (λ w. IsWithin b w) same_too (subst (λ d. IsWithin d u) same within.0)
within-at (c ∷ bs) (u ∷ x) (suc i) b v within here there = within-at bs x i b v within.1 here there

-- one list more of those that are made
pub next-list : {A B : Type 0} (f : A → B) (whole : List B) (i : ℕ) (done longer : List A) (x : A) →
    slice_get whole i ≡ Some (f x) → map f done ≡ take i whole → longer ≡ done ++ x ∷ [] →
    map f longer ≡ take (i + 1) whole
next-list f whole i done longer x here so_far is =
    let low = slice_get_within whole i (f x) here in
    let same : get_or whole i (f x) ≡ f x = cc (slice_get-get_or whole i (f x) low) in
    ap (map f) is ∙ map_push f done x ∙ (λ k. so_far k ++ sym same k ∷ []) ∙ sym (take_more whole i (f x) low)

-- what holds of each image holds of what it is the image of
pub unmapped : {A B : Type 0} (f : A → B) (P : B → Type 0) (xs : List A) → All P (map f xs) → All (λ x. P (f x)) xs
unmapped f P xs all k d low =
    subst P (get_or-map f xs k d (f d) low) (all k (f d) (omega (arith, length-map xs f)))
