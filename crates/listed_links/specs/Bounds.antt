-- Which elements count for a complexity.
use Rattle.std.specs.Prelude.{ℕ, nat_le, Bool, true, not, ◌||◌, List, take, drop}
use Rattle.fold_theory.specs.declared.Phase.{Phase}
use Rattle.fold_theory.specs.declared.Phase.TheVariants.{Closed, Counted}
use Rattle.fold_theory.specs.declared.Relation.{Relation}
use Rattle.lattice_theory.specs.Vectors.{Vector, norm1}
use Rattle.fold_theory.specs.Programs.{keeps_equations}

-- an element with this image counts: in phase Closed where the image is 0 in each equation
abbrev pub counts : Phase → List Relation → Vector → Bool
counts Closed relations image = keeps_equations relations image
counts Counted relations image = true

-- the element does not count, or the norm of its first part is at most the bound
abbrev pub is_bounded_at : Phase → List Relation → ℕ → ℕ → Vector → Bool
is_bounded_at phase relations cols bound z =
    not (counts phase relations (drop cols z)) || nat_le (norm1 (take cols z)) bound
