use Rattle.std.proofs.Common.{◌≡◌}
use Rattle.fold_theory.specs.Programs.{phase_cost}
use Rattle.round_workers.specs.Menus.{AreRunMenus}
use Rattle.phase_run.proofs.RunLaws.{RunSoFar, height}
use Rattle.phase_run.proofs.runs.run.Given as goal

abbrev pub invariant-loop-steps : goal.invariant-loop-steps
invariant-loop-steps g l = record {
  so_far : RunSoFar l.fold l.fn.point l.steps.items l.point;
  menus : AreRunMenus l.fold l.point l.menus;
  cost : l.after ≡ phase_cost l.fold.program l.fold.phase l.point;
}

abbrev pub decreases-loop-steps : goal.decreases-loop-steps
decreases-loop-steps g l = height l.after
