-- Places in a list of sums, which stands as a matrix: each row is the level of a sum and then the sum.
use Rattle.std.specs.Prelude.{ℕ, suc, ◌≤◌, ◌^◌, unsigned_abs, List, [], ◌∷◌, map, Option, Some, None, cond, All}
use Rattle.std.specs.Option.{option_map}
use Rattle.lattice_theory.specs.Vectors.{Vector, same}
use Rattle.lattice_theory.specs.SignedSums.{Sum, vectors}
use Rattle.run_theory.specs.Certificates.{sum_of_row}

-- the sums of such a matrix, and their vectors
abbrev pub sums_of : List Vector → List Sum
sums_of rows = map sum_of_row rows

abbrev pub vectors_of : List Vector → List Vector
vectors_of rows = vectors (sums_of rows)

-- the first place of the vector in the list, from 0
abbrev pub place_in : List Vector → Vector → Option ℕ
place_in [] w = None
place_in (z ∷ zs) w = cond (same z w) (Some 0) (option_map suc (place_in zs w))

-- each entry is at most 2 ^ 47 in absolute value
abbrev pub IsModest : Vector → Type 0
IsModest v = All (λ a. unsigned_abs a ≤ 2 ^ 47) v
