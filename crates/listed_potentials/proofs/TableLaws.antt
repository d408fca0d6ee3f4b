-- The layers of a table hold where each sum holds in all layers, and each end does.
use Rattle.std.proofs.Common.{◌≡◌, ℕ, suc, ◌+◌, ◌<◌, ℤ, Bool, true, false, not, ◌&&◌, ◌||◌, cond, List, [], ◌∷◌, length}
use Rattle.std.proofs.Common.{map, drop, Option, Some, None, refl, ap, arith, sym, ◌∙◌}
use Rattle.std.specs.List.{AllByRecursion, list_all}
use Rattle.std.specs.Option.{option_map}
use Rattle.std.proofs.Math.Seq.{drop-cons}
use Rattle.std.proofs.lemmas.List.{drop_all}
use Rattle.fold_theory.specs.declared.Phase.{Phase}
use Rattle.lattice_theory.specs.Lists.{all_zip}
use Rattle.lattice_theory.specs.Vectors.{Vector, add, same}
use Rattle.fold_theory.specs.Programs.{Program, Brick, Bricks, is_within}
use Rattle.run_theory.specs.Walks.{brick_change}
use Rattle.run_theory.specs.Checker.{at_most, plus, potential_of, layer_holds, layers_hold}
use Rattle.lattice_laws.proofs.Tests.{and-interchange}
use Rattle.listed_sums.specs.Places.{place_in}
use Rattle.listed_potentials.specs.Moves.{change_of, changes_of, all_changes, places_of, there, move_holds, row_holds}
use Rattle.listed_potentials.specs.Columns.{cell, column_holds, columns_hold}
use Rattle.listed_potentials.specs.Ends.{ends_hold}

-- ---- one move

-- the potential of a sum is the cell at its place
pub potential_there : (zs : List Vector) (next : List (Option ℤ)) (u : Vector) → length next ≡ length zs →
    potential_of zs next u ≡ there next (place_in zs u)
potential_there [] next u size = refl
potential_there (z ∷ zs) [] u size = absurd (omega arith)
potential_there (z ∷ zs) (a ∷ next) u size = by (same z u) (potential_there zs next u (omega arith))
  where
    shifted : (o : Option ℕ) → there next o ≡ there (a ∷ next) (option_map suc o)
    shifted None = refl
    shifted (Some at) = refl

    by : (t : Bool) → potential_of zs next u ≡ there next (place_in zs u) →
        cond t (Some a) (potential_of zs next u) ≡ there (a ∷ next) (cond t (Some 0) (option_map suc (place_in zs u)))
    by true rest = refl
    by false rest = rest ∙ shifted (place_in zs u)

-- the test of one move, from its change and its place
move-test : (phase : Phase) (b : Brick) (v u : Vector) (here : Option ℤ) (o : Option (Option ℤ)) →
    elim o [
      | None ↦ true
      | Some next ↦ not (is_within b u) || at_most here (plus (brick_change phase b v u) next)
    ] ≡ move_holds here (change_of phase b v u) o
move-test phase b v u here None = none (is_within b u)
  where
    none : (t : Bool) → true ≡ move_holds here (cond t (Some (brick_change phase b v u)) None) None
    none true = refl
    none false = refl
move-test phase b v u here (Some next) = some (is_within b u)
  where
    some : (t : Bool) → (not t || at_most here (plus (brick_change phase b v u) next))
        ≡ move_holds here (cond t (Some (brick_change phase b v u)) None) (Some next)
    some true = refl
    some false = refl

-- ---- one sum in one layer

module _ (phase : Phase) (zs : List Vector) (b : Brick) (v : Vector) (next : List (Option ℤ))
    (size : length next ≡ length zs) where
  -- the test of the definition
  abbrev tested : Vector → Option ℤ → Vector → Bool
  tested w here h =
      elim (potential_of zs next (add w h)) [
        | None ↦ true
        | Some there ↦ not (is_within b (add v h)) || at_most here (plus (brick_change phase b v (add v h)) there)
      ]

  row-test : (w : Vector) (here : Option ℤ) (hs : List Vector) →
      list_all (tested w here) hs
      ≡ all_zip (λ change place. move_holds here change (there next place))
      (map (λ h. change_of phase b v (add v h)) hs)
      (map (λ h. place_in zs (add w h)) hs)
  row-test w here [] = refl
  row-test w here (h ∷ hs) =
      (λ i. one i && row-test w here hs i)
    where
      one : tested w here h ≡ move_holds here (change_of phase b v (add v h)) (there next (place_in zs (add w h)))
      one =
          ap (λ o. elim o [
            | None ↦ true
            | Some there ↦ not (is_within b (add v h)) || at_most here (plus (brick_change phase b v (add v h)) there)
          ]) (potential_there zs next (add w h) size)
          ∙ move-test phase b v (add v h) here (there next (place_in zs (add w h)))

  -- each sum from place j on
  abbrev rows_hold : List (Option ℤ) → ℕ → List Vector → Bool
  rows_hold row j [] = true
  rows_hold row j (w ∷ ws) =
      row_holds (cell row j) (changes_of phase zs b v) (places_of zs w) next && rows_hold row (suc j) ws

  rows-test : (row : List (Option ℤ)) (j : ℕ) (ws : List Vector) → length row ≡ j + length ws →
      all_zip (λ w here. list_all (tested w here) zs) ws (drop j row) ≡ rows_hold row j ws
  rows-test row j [] wide = ap (all_zip (λ w here. list_all (tested w here) zs) []) (drop_all j row (omega arith))
  rows-test row j (w ∷ ws) wide =
      let low : j < length row = omega arith in
      ap (all_zip (λ u here. list_all (tested u here) zs) (w ∷ ws)) (drop-cons row j None low)
      ∙ (λ i. row-test w (cell row j) zs i && rows-test row (suc j) ws (omega arith) i)

  layer-test : (row : List (Option ℤ)) → length row ≡ length zs → layer_holds phase zs b v row next ≡ rows_hold row 0 zs
  layer-test row wide = rows-test row 0 zs (omega arith)

-- ---- all layers

-- the first layer, and the others
columns-split : (phase : Phase) (zs : List Vector) (b : Brick) (v : Vector) (more : List (List (Option ℤ)))
    (row next : List (Option ℤ)) (rows : List (List (Option ℤ))) (size : length next ≡ length zs) (j : ℕ)
    (ws : List Vector) →
    columns_hold (changes_of phase zs b v ∷ more) zs (row ∷ next ∷ rows) j ws
    ≡ (rows_hold phase zs b v next size row j ws && columns_hold more zs (next ∷ rows) j ws)
columns-split phase zs b v more row next rows size j [] = refl
columns-split phase zs b v more row next rows size j (w ∷ ws) =
    ap (λ t. (row_holds (cell row j) (changes_of phase zs b v) (places_of zs w) next && column_holds more
    (places_of zs w) j (next ∷ rows)) && t)
    (columns-split phase zs b v more row next rows size (suc j) ws)
    ∙ and-interchange (row_holds (cell row j) (changes_of phase zs b v) (places_of zs w) next)
    (column_holds more (places_of zs w) j (next ∷ rows))
    (rows_hold phase zs b v next size row (suc j) ws) (columns_hold more zs (next ∷ rows) (suc j) ws)

columns-none : (zs : List Vector) (rows : List (List (Option ℤ))) (j : ℕ) (ws : List Vector) →
    columns_hold [] zs rows j ws ≡ true
columns-none zs rows j [] = refl
columns-none zs rows j (w ∷ ws) = columns-none zs rows (suc j) ws

-- the last row
unfoldable pub last_row : List (Option ℤ) → List (List (Option ℤ)) → List (Option ℤ)
last_row row [] = row
last_row row (next ∷ rows) = last_row next rows

-- the layers hold where the columns and the ends do
pub layers-test : (p : Program) (phase : Phase) (zs : List Vector) (rests : Vector) (bs : List Brick) (x : Bricks)
    (row : List (Option ℤ)) (rows : List (List (Option ℤ))) → length x ≡ length bs → length rows ≡ length bs →
    length row ≡ length zs → AllByRecursion (λ r. length r ≡ length zs) rows →
    layers_hold p phase zs rests bs x (row ∷ rows)
    ≡ (columns_hold (all_changes phase zs bs x) zs (row ∷ rows) 0 zs && ends_hold p phase zs rests (last_row row rows))
unfolding last_row
layers-test p phase zs rests [] [] row [] points layers wide widths =
    ap (λ t. t && ends_hold p phase zs rests row) (sym (columns-none zs (row ∷ []) 0 zs))
layers-test p phase zs rests [] [] row (next ∷ rows) points layers wide widths = absurd (omega arith)
layers-test p phase zs rests [] (v ∷ x) row rows points layers wide widths = absurd (omega arith)
layers-test p phase zs rests (b ∷ bs) [] row rows points layers wide widths = absurd (omega arith)
layers-test p phase zs rests (b ∷ bs) (v ∷ x) row [] points layers wide widths = absurd (omega arith)
layers-test p phase zs rests (b ∷ bs) (v ∷ x) row (next ∷ rows) points layers wide widths =
    let first = layer-test phase zs b v next widths.0 row wide in
    let others = layers-test p phase zs rests bs x next rows (omega arith) (omega arith) widths.0 widths.1 in
    let ends = ends_hold p phase zs rests (last_row next rows) in
    let more = columns_hold (all_changes phase zs bs x) zs (next ∷ rows) 0 zs in
    (λ i. first i && others i)
    ∙ regrouped (rows_hold phase zs b v next widths.0 row 0 zs) more ends
    ∙ ap (λ t. t && ends) (sym (columns-split phase zs b v (all_changes phase zs bs x) row next rows widths.0 0 zs))
  where
    regrouped : (a b c : Bool) → (a && (b && c)) ≡ ((a && b) && c)
    regrouped true b c = refl
    regrouped false b c = refl
