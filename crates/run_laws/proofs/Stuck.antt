-- A brick whose run ends with a residual cannot meet its rows.
use Rattle.std.proofs.Common.{◌≡◌, ℕ, ◌+◌, ◌<◌, List, Some, slice_get, sym, ◌∙◌, refl}
use Rattle.fold_theory.specs.declared.Verdict.TheVariants.{InfeasibleBrick}
use Rattle.lattice_theory.specs.Vectors.{Vector}
use Rattle.lattice_theory.specs.Lattices.{IsSlackBasis}
use Rattle.fold_theory.specs.Programs.{Program, Brick, IsProgram, brick_residual}
use Rattle.run_theory.specs.BrickRuns.{BrickMove, IsBrickRun}
use Rattle.fold_theory.specs.Verdicts.{Holds}
use Rattle.piece_laws.proofs.Misses.{brick_miss_holds}
use Rattle.run_laws.proofs.BrickRuns.{run_no_help}
use Rattle.piece_laws.proofs.Bricks.{IsHeldBrick, least_residual}
use Rattle.piece_laws.proofs.BrickEnds.{brick_run_end}
use Rattle.cover_laws.proofs.SlackBases.{slack_basis_complete}
use Rattle.fold_laws.proofs.Points.{brick_at}

-- the verdict on a brick whose run ends with a residual is true
pub stuck_holds : (p : Program) (basis : List Vector) (place : ℕ) (brick : Brick) (moves : List BrickMove)
    (v : Vector) → IsProgram p → IsSlackBasis p.brick basis → slice_get p.bricks place ≡ Some brick →
    IsBrickRun p basis brick moves v → 0 < brick_residual p brick v →
    Holds p (InfeasibleBrick (place + 1) (brick_residual p brick v))
stuck_holds p basis place brick moves v program slack there run above =
    let is = brick_at p place brick program there in
    let end = brick_run_end p basis brick moves v is.uncrossed run in
    let held : IsHeldBrick p brick basis v =
    record {
      columns = is.lower_size ∙ sym program.brick_shape.width;
      right = is.right_size;
      complete = slack_basis_complete p.brick basis slack;
      within = end.within;
      no_help = run_no_help p brick basis v end;
    } in
    brick_miss_holds p (place + 1) place brick v refl there end.within above (least_residual p brick basis v held)
