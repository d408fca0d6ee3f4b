-- What the moves of a brick change the cost by.
use Rattle.std.specs.Prelude.{◌≡◌, ℕ, ◌*◌, ◌≤◌, ℤ, unsigned_abs, Option, Some, None}
use Rattle.fold_theory.specs.declared.Phase.{Phase}
use Rattle.lattice_theory.specs.Vectors.{Vector}
use Rattle.fold_theory.specs.Programs.{Brick, IsWithin}
use Rattle.run_theory.specs.Walks.{brick_change}
use Rattle.fold_program.specs.Refusals.{brick_magnitude}
use Rattle.step_targets.specs.Targets.{after}

-- what the move of a brick changes its cost by, where it stays within the bounds
abbrev pub IsChange : Phase → ℕ → Brick → Vector → Vector → Option ℤ → Type 0
IsChange phase k b v d None = IsWithin b (after k v d) → ⊥
IsChange phase k b v d (Some c) =
    IsWithin b (after k v d) × (c ≡ brick_change phase b v (after k v d)) × (unsigned_abs c ≤ 2 * brick_magnitude b)
