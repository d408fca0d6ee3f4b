-- The sums and the potentials, row by row.
use Rattle.std.proofs.Common.{◌≡◌, ℕ, zero, suc, ◌+◌, ◌<◌, ℤ, pos, List, [], ◌∷◌, ◌++◌, length, map, take, get_or, ap}
use Rattle.std.proofs.Common.{arith, sym, ◌∙◌, Some, Option, slice_get, All, append_assoc, flat_map}
use Rattle.std.specs.List.{AllByRecursion}
use Rattle.std.proofs.lemmas.List.{take_more, length-map, get_or-map}
use Rattle.std.proofs.lemmas.List.Elements.{All-map, recursion_from_All}
use Rattle.std.proofs.lemmas.Option.{slice_get_within, get_or_from_slice_get}
use Rattle.lattice_theory.specs.Vectors.{Vector}
use Rattle.lattice_theory.specs.SignedSums.{Sum, vectors}
use Rattle.run_theory.specs.Certificates.{Table}
use Rattle.run_theory.specs.Outcomes.{row_of_sum}
use Rattle.brick_sums.specs.Places.{levels}
use Rattle.brick_dp.specs.Tables.{IsCell}
use Rattle.augment_run.proofs.RowLists.{flat_more}

-- the row of a sum is its level and then its vector
row_there : (sums : List Sum) (i level : ℕ) (v : Vector) → slice_get (levels sums) i ≡ Some level →
    slice_get (vectors sums) i ≡ Some v →
    slice_get (map row_of_sum sums) i ≡ Some (pos level ∷ v)
row_there [] i level v first second = absurd (cc)
row_there (s ∷ sums) zero level v first second =
    let low : s.level ≡ level = cc in
    let same : s.vector ≡ v = cc in
    λ j. Some (pos (low j) ∷ same j)
row_there (s ∷ sums) (suc i) level v first second = row_there sums i level v first second

-- one more sum
pub sum_more : (sums : List Sum) (i level : ℕ) (v entries next : Vector) → slice_get (levels sums) i ≡ Some level →
    slice_get (vectors sums) i ≡ Some v →
    next ≡ (entries ++ pos level ∷ []) ++ v → entries ≡ flat_map (λ r. r) (take i (map row_of_sum sums)) →
    next ≡ flat_map (λ r. r) (take (i + 1) (map row_of_sum sums))
sum_more sums i level v entries next first second made so_far =
    made ∙ append_assoc entries (pos level ∷ []) v
    ∙ flat_more (map row_of_sum sums) i (pos level ∷ v) entries (row_there sums i level v first second) so_far

-- the level of a listed sum is low
pub level_low : (most : ℕ) (sums : List Sum) (i level : ℕ) → All (λ (s : Sum). s.level < most) sums →
    slice_get (levels sums) i ≡ Some level → level < most
level_low most sums i level all there = by sums i (recursion_from_All (λ (s : Sum). s.level < most) sums all) there
  where
    by : (sums : List Sum) (i : ℕ) → AllByRecursion (λ (s : Sum). s.level < most) sums →
        slice_get (levels sums) i ≡ Some level → level < most
    by [] i all there = absurd (cc)
    by (s ∷ sums) zero all there = let same : s.level ≡ level = cc in omega (arith, all.0, same)
    by (s ∷ sums) (suc i) all there = by sums i all.1 there

-- each row of the sums has one entry more than the sum
pub sum_widths : (cols : ℕ) (sums : List Sum) → All (λ w. length w ≡ cols) (vectors sums) →
    All (λ row. length row ≡ 1 + cols) (map row_of_sum sums)
sum_widths cols sums widths = All-map (λ row. length row ≡ 1 + cols) row_of_sum sums (λ i d inside.
    let s = get_or sums i d in
    let at : get_or (vectors sums) i d.vector ≡ s.vector =
    get_or-map (λ (s : Sum). s.vector) sums i d d.vector inside in
    let size : length (vectors sums) ≡ length sums = length-map sums (λ (s : Sum). s.vector) in
    let wide : length (get_or (vectors sums) i d.vector) ≡ cols = widths i d.vector (omega (arith, inside, size)) in
    omega (arith, wide, ap length at))

-- one more potential of a layer
pub cell_more : (t : Table) (layer i : ℕ) (cell : Option ℤ) (before cells next : List (Option ℤ)) →
    IsCell t layer i cell →
    cells ≡ before ++ take i (get_or t.rows layer []) → next ≡ cells ++ cell ∷ [] →
    next ≡ before ++ take (i + 1) (get_or t.rows layer [])
cell_more t layer i cell before cells next (row, there, at) so_far made =
    let is : get_or t.rows layer [] ≡ row = get_or_from_slice_get t.rows layer row [] there in
    let low = slice_get_within row i cell at in
    let here : get_or row i cell ≡ cell = get_or_from_slice_get row i cell cell at in
    let more : take i row ++ cell ∷ [] ≡ take (i + 1) row = ap (λ c. take i row ++ c ∷ []) (sym here)
    ∙ sym (take_more row i cell low) in
    made ∙ (λ j. (so_far ∙ ap (λ r. before ++ take i r) is) j ++ cell ∷ [])
    ∙ append_assoc before (take i row) (cell ∷ [])
    ∙ ap (λ r. before ++ r) more ∙ ap (λ r. before ++ take (i + 1) r) (sym is)
