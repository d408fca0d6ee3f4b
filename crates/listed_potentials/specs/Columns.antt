-- The table of potentials, sum by sum: in each layer no move leads below the potential of the sum.
use Rattle.std.specs.Prelude.{ℕ, suc, ℤ, Bool, true, false, ◌&&◌, List, [], ◌∷◌, Option, None, get_or}
use Rattle.lattice_theory.specs.Vectors.{Vector}
use Rattle.listed_sums.specs.Places.{place_in}
use Rattle.listed_potentials.specs.Moves.{places_of, row_holds}

-- the cell of a row at a place
abbrev pub cell : List (Option ℤ) → ℕ → Option ℤ
cell row j = get_or row j None

-- the sum at place j, whose moves lead to these places: it holds in all layers
abbrev pub column_holds : List (List (Option ℤ)) → List (Option ℕ) → ℕ → List (List (Option ℤ)) → Bool
column_holds [] places j rows = true
column_holds (changes ∷ more) places j [] = false
column_holds (changes ∷ more) places j (row ∷ []) = false
column_holds (changes ∷ more) places j (row ∷ next ∷ rows) =
    row_holds (cell row j) changes places next && column_holds more places j (next ∷ rows)

-- so each sum from place j on
abbrev pub columns_hold : List (List (Option ℤ)) → List Vector → List (List (Option ℤ)) → ℕ → List Vector → Bool
columns_hold changes zs rows j [] = true
columns_hold changes zs rows j (w ∷ ws) =
    column_holds changes (places_of zs w) j rows && columns_hold changes zs rows (suc j) ws
