-- Moves of one brick from the listed sums: what they cost, where they lead, and whether they keep the potentials.
use Rattle.std.specs.Prelude.{ℕ, ℤ, Bool, true, List, map, Option, Some, None, cond, slice_get}
use Rattle.fold_theory.specs.declared.Phase.{Phase}
use Rattle.lattice_theory.specs.Lists.{all_zip, zip_with}
use Rattle.lattice_theory.specs.Vectors.{Vector, add}
use Rattle.fold_theory.specs.Programs.{Brick, Bricks, is_within}
use Rattle.run_theory.specs.Walks.{brick_change}
use Rattle.run_theory.specs.Checker.{at_most, plus}
use Rattle.listed_sums.specs.Places.{place_in}

-- what the phase cost of a brick changes by from v to u, and none where u is outside its bounds
abbrev pub change_of : Phase → Brick → Vector → Vector → Option ℤ
change_of phase b v u = cond (is_within b u) (Some (brick_change phase b v u)) None

-- the same for each listed move from v, and for each brick at a point
abbrev pub changes_of : Phase → List Vector → Brick → Vector → List (Option ℤ)
changes_of phase zs b v = map (λ h. change_of phase b v (add v h)) zs

abbrev pub all_changes : Phase → List Vector → List Brick → Bricks → List (List (Option ℤ))
all_changes phase zs bs x = zip_with (changes_of phase zs) bs x

-- where each listed move leads from the sum w, among the listed sums
abbrev pub places_of : List Vector → Vector → List (Option ℕ)
places_of zs w = map (λ h. place_in zs (add w h)) zs

-- the potential at a place of the next layer, where there is a place
abbrev pub there : List (Option ℤ) → Option ℕ → Option (Option ℤ)
there next None = None
there next (Some at) = slice_get next at

-- a move with this change does not lead below the potential here
abbrev pub move_holds : Option ℤ → Option ℤ → Option (Option ℤ) → Bool
move_holds here None next = true
move_holds here (Some d) None = true
move_holds here (Some d) (Some next) = at_most here (plus d next)

-- so no listed move
abbrev pub row_holds : Option ℤ → List (Option ℤ) → List (Option ℕ) → List (Option ℤ) → Bool
row_holds here changes places next = all_zip (λ change place. move_holds here change (there next place)) changes places
