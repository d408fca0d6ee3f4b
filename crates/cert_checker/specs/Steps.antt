-- Steps from a point of a brick by the listed elements.
use Rattle.std.specs.Prelude.{ℕ, nat_lt, Bool, ◌&&◌, List}
use Rattle.lattice_theory.specs.Vectors.{Vector}
use Rattle.lattice_theory.specs.Lattices.{first_parts}
use Rattle.fold_theory.specs.Programs.{Program, Brick, is_within, brick_residual}
use Rattle.run_theory.specs.Checker.{no_step_helps}

-- y is within the bounds of the brick and has a smaller residual than this
abbrev pub is_better : Program → Brick → ℕ → Vector → Bool
is_better p b least y = is_within b y && nat_lt (brick_residual p b y) least

-- no step by the first part of a listed element helps
abbrev pub is_best : Program → Brick → List Vector → Vector → Bool
is_best p b basis x = no_step_helps p b (first_parts p.brick.cols basis) x
