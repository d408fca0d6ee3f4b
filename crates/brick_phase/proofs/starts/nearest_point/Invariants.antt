use Rattle.std.proofs.Common.{◌≡◌, take}
use Rattle.lattice_theory.specs.Lists.{zip_with}
use Rattle.run_theory.specs.BrickRuns.{nearest}
use Rattle.step_targets.specs.Targets.{AreBetween}
use Rattle.brick_phase.proofs.starts.nearest_point.Given as goal

abbrev pub invariant-loop-at : goal.invariant-loop-at
invariant-loop-at l = record {
  so_far : l.point.items ≡ zip_with nearest (take l.at l.lower) (take l.at l.upper);
  within : AreBetween (take l.at l.lower) (take l.at l.upper) l.point.items;
}
