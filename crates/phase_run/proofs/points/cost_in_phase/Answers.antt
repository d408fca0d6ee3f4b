use Rattle.std.proofs.Common.{sym, subst}
use Rattle.fold_theory.specs.Programs.{Program, IsProgram}
use Rattle.fold_program.specs.Points.{HasPointShape}
use Rattle.fold_program.proofs.PointLaws.{shape_of}
use Rattle.phase_run.proofs.points.cost_in_phase.Goals as goal

pub link_residual-requires : goal.link_residual-requires
link_residual-requires c =
    record {
      shape =
          subst (λ (p : Program). HasPointShape p c.args.point.now) (sym c.program-program.ensures)
          (shape_of c.args.fold.now.program c.args.point.now
          (subst IsProgram c.program-program.ensures c.n.ensures.program) c.requires.within);
    }
