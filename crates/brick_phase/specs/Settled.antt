-- How the run of a brick ends.
use Rattle.std.specs.Prelude.{◌≡◌, ℕ, ◌-◌, ◌<◌, List, Some, slice_get}
use Rattle.lattice_theory.specs.Vectors.{Vector}
use Rattle.fold_theory.specs.Programs.{Program, Brick, IsWithin, brick_residual}
use Rattle.run_theory.specs.BrickRuns.{BrickMove, IsBrickRun}
use Rattle.brick_phase.specs.declared.settling.BrickEnd.{BrickEnd}
use Rattle.brick_phase.specs.declared.settling.BrickEnd.TheVariants.{Feasible, Stuck}

-- the run of brick number i, from 1, has these steps, and its last point is within the bounds and has this residual
abbrev pub IsBrickEnd : Program → List Vector → ℕ → List BrickMove → Vector → ℕ → Type 0
IsBrickEnd p basis i trace v residual =
    (b : Brick) × (slice_get p.bricks (i - 1) ≡ Some b)
    × IsBrickRun p basis b trace v × (brick_residual p b v ≡ residual) × IsWithin b v

-- the run of brick number i ends at this point, and meets its rows or is stuck
abbrev pub IsSettled : Program → List Vector → ℕ → BrickEnd → Type 0
IsSettled p basis i (Feasible point trace) = IsBrickEnd p basis i trace.items point.items 0
IsSettled p basis i (Stuck point trace residual) =
    IsBrickEnd p basis i trace.items point.items residual × (0 < residual)
