-- Words on lists of vectors: their sum, their weight and their entries.
use Rattle.std.proofs.Common.{◌≡◌, ℕ, ◌+◌, List, ◌∷◌, length, flat_map}
use Rattle.std.specs.List.{AllByRecursion}
use Rattle.lattice_theory.specs.Vectors.{Vector, norm1, add, zeros}
use Rattle.std.specs.Prelude.{[]}

-- each vector has n entries
abbrev pub AreSized : ℕ → List Vector → Type 0
AreSized n vs = AllByRecursion (λ v. length v ≡ n) vs

-- the sum of the terms, which are vectors of n entries
abbrev pub sum_of : ℕ → List Vector → Vector
sum_of n [] = zeros n
sum_of n (e ∷ es) = add e (sum_of n es)

-- the sum of their norms
abbrev pub weight : List Vector → ℕ
weight [] = 0
weight (e ∷ es) = norm1 e + weight es

-- all entries, vector after vector
abbrev pub flat : List Vector → Vector
flat vs = flat_map (λ v. v) vs
