use Rattle.std.proofs.Common.{◌≡◌, take}
use Rattle.lattice_theory.specs.Lists.{zip_with}
use Rattle.step_targets.specs.Targets.{AreBetween}
use Rattle.step_targets.proofs.BoundLaws.{further}
use Rattle.step_targets.proofs.target.Given as goal

abbrev pub invariant-loop-at : goal.invariant-loop-at
invariant-loop-at l = record {
  so_far : l.moved.items ≡ zip_with (further l.length) (take l.at l.point) (take l.at l.part);
  within : AreBetween (take l.at l.lower) (take l.at l.upper) l.moved.items;
}
