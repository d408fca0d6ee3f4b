-- The table of all layers has the least costs of walks.
use Rattle.std.proofs.Common.{◌≡◌, ℕ, ◌+◌, ◌-◌, ◌^◌, ◌<◌, ◌≤◌, ℤ, pos, List, [], length, reverse, drop, ap, arith, sym}
use Rattle.std.proofs.Common.{◌∙◌, Some, None, Option, slice_get, subst, All, get_or}
use Rattle.std.proofs.lemmas.List.{length-map, length-reverse, get_or-reverse}
use Rattle.std.proofs.lemmas.Option.{slice_get-get_or, slice_get_within, get_or_from_slice_get}
use Rattle.lattice_theory.specs.Vectors.{Vector}
use Rattle.lattice_theory.specs.SignedSums.{Sum, vectors}
use Rattle.fold_theory.specs.Programs.{Bricks, link_rests}
use Rattle.run_theory.specs.Walks.{IsPotential}
use Rattle.run_theory.specs.Outcomes.{ArePotentials}
use Rattle.run_theory.specs.Folds.{FoldValue}
use Rattle.lattice_laws.proofs.Places.{there_at}
use Rattle.walk_laws.proofs.BestWalks.{IsLeastWalk}
use Rattle.fold_program.specs.Refusals.{total_magnitude}
use Rattle.layer_sieve.specs.Reaching.{AreAtMost}
use Rattle.sieve_laws.specs.Sieve.{Layer}
use Rattle.brick_dp.specs.Tables.{AreLeastLayers, table_of, IsCell}
use Rattle.brick_dp.proofs.FillLaws.{most_small, cells_small}
use Rattle.brick_dp.proofs.UnderLaws.{least_of_all}

-- the rows of the table are those of the layers, the other way round
pub row_at : (cols : ℕ) (layers : List Layer) (i : ℕ) (layer : Layer) → i < length layers →
    slice_get layers (length layers - 1 - i) ≡ Some layer →
    slice_get (table_of cols layers).rows i ≡ Some layer
row_at cols layers i layer low there =
    let inside : i < length (reverse layers) = omega (arith, low, length-reverse layers) in
    let entry : get_or layers (length layers - 1 - i) [] ≡ layer =
    get_or_from_slice_get layers (length layers - 1 - i) layer [] there in
    slice_get-get_or (reverse layers) i [] inside ∙ ap Some (get_or-reverse layers i [] low ∙ entry)

pub height : (cols : ℕ) (layers : List Layer) → length (table_of cols layers).rows ≡ length layers
height cols layers = length-reverse layers

-- a cell of the table
pub cell_there : (cols : ℕ) (layers : List Layer) (i j : ℕ) (layer : Layer) (cell : Option ℤ) → i < length layers →
    slice_get layers (length layers - 1 - i) ≡ Some layer → slice_get layer j ≡ Some cell →
    IsCell (table_of cols layers) i j cell
cell_there cols layers i j layer cell low there at = (layer, row_at cols layers i layer low there, at)

least_is_potential : (f : FoldValue) (x : Bricks) (i : ℕ) (w : Vector) (o : Option ℤ) →
    IsLeastWalk f.program f.phase (vectors f.sums) 0 (link_rests f.program x) (drop i f.program.bricks) (drop i x) w
    o → IsPotential f.program f.phase (vectors f.sums) x 0 i w o
least_is_potential f x i w None h = h
least_is_potential f x i w (Some a) h = h

-- each layer has a cell for each sum
pub all_sized : (f : FoldValue) (x : Bricks) (k n : ℕ) (layers : List Layer) → AreLeastLayers f x k n layers →
    All (λ (layer : Layer). length layer ≡ length f.sums) layers
all_sized f x k n layers are m d low =
    let layer = (are (pos 0)).each m (get_or layers m d) (slice_get-get_or layers m d low) in
    layer.under.size ∙ length-map {A = Sum} {B = Vector} f.sums (λ s. s.vector)

pub are_potentials : (f : FoldValue) (x : Bricks) (layers : List Layer) (cols : ℕ) →
    AreLeastLayers f x 0 (length f.program.bricks + 1) layers → cols ≡ length f.sums →
    ArePotentials f.program f.phase (vectors f.sums) x (table_of cols layers)
are_potentials f x layers cols are is = record {
  width = is ∙ sym count;
  height = height cols layers ∙ (are (pos 0)).size;
  each_row = rows;
  cells = cell;
}
  where
    zs : List Vector
    zs = vectors f.sums

    n : ℕ
    n = length f.program.bricks

    count : length zs ≡ length f.sums
    count = length-map {A = Sum} {B = Vector} f.sums (λ s. s.vector)

    rows : All (λ row. length row ≡ length zs) (table_of cols layers).rows
    rows i d low = by (there_at layers (length layers - 1 - i) (omega (arith, low, height cols layers)))
      where
        by : (layer : Layer) × (slice_get layers (length layers - 1 - i) ≡ Some layer) →
            length (get_or (table_of cols layers).rows i d) ≡ length zs
        by (layer, there) =
            let at = row_at cols layers i layer (omega (arith, low, height cols layers)) there in
            ap length (get_or_from_slice_get (table_of cols layers).rows i layer d at)
            ∙ ((are (pos 0)).each (length layers - 1 - i) layer there).under.size

    cell : (i j : ℕ) (w : Vector) → i ≤ n → slice_get zs j ≡ Some w →
        (row : List (Option ℤ)) × (cell : Option ℤ) × (slice_get (table_of cols layers).rows i ≡ Some row) ×
        (slice_get row j ≡ Some cell) × IsPotential f.program f.phase zs x 0 i w cell
    cell i j w low listed = by (there_at layers (n - i) (omega (arith, low, (are (pos 0)).size)))
      where
        by : (layer : Layer) × (slice_get layers (n - i) ≡ Some layer) →
            (row : List (Option ℤ)) × (cell : Option ℤ) × (slice_get (table_of cols layers).rows i ≡ Some row) ×
            (slice_get row j ≡ Some cell) × IsPotential f.program f.phase zs x 0 i w cell
        by (layer, there) =
            let index : n - i ≡ length layers - 1 - i = omega (arith, (are (pos 0)).size) in
            let least = least_of_all f x 0 (n - (n - i)) layer (λ need. (are need).each (n - i) layer there) in
            let at = there_at layer j (omega (arith, least.size, slice_get_within zs j w listed)) in
            let back : n - (n - i) ≡ i = omega (arith, low) in
            let walk = subst (λ m. IsLeastWalk f.program f.phase zs 0 (link_rests f.program x)
            (drop m f.program.bricks) (drop m x) w at.0) back (least.cells j w at.0 listed at.1) in (
              layer,
              at.0,
              row_at cols layers i layer (omega (arith, low, (are (pos 0)).size)) (ap (slice_get layers) (sym index)
                  ∙ there),
              at.1,
              least_is_potential f x i w at.0 walk,
            )

-- and none of them is large
pub potentials_small : (f : FoldValue) (x : Bricks) (layers : List Layer) (cols : ℕ) →
    AreLeastLayers f x 0 (length f.program.bricks + 1) layers →
    total_magnitude f.program ≤ 2 ^ 120 → All (AreAtMost (2 ^ 122)) (table_of cols layers).rows
potentials_small f x layers cols are most i d low =
    by (there_at layers (length layers - 1 - i) (omega (arith, low, height cols layers)))
  where
    by : (layer : Layer) × (slice_get layers (length layers - 1 - i) ≡ Some layer) →
        AreAtMost (2 ^ 122) (get_or (table_of cols layers).rows i d)
    by (layer, there) =
        let at = row_at cols layers i layer (omega (arith, low, height cols layers)) there in
        let m = length layers - 1 - i in
        subst (AreAtMost (2 ^ 122)) (sym (get_or_from_slice_get (table_of cols layers).rows i layer d at)) (
        most_small f.program (length f.program.bricks - m) layer most
        (cells_small f x 0 (length f.program.bricks - m) (pos 0) layer ((are (pos 0)).each m layer there))
        )
