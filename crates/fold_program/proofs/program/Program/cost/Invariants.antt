use Rattle.std.proofs.Common.{◌≡◌, ◌≤◌, ◌+◌, ◌+ℤ◌, unsigned_abs}
use Rattle.fold_theory.specs.Programs.{cost}
use Rattle.fold_program.specs.Refusals.{total_magnitude}
use Rattle.fold_program.proofs.CostLaws.{cost_from, magnitude_from}
use Rattle.fold_program.proofs.program.Program.cost.Given as goal

abbrev pub invariant-loop-brick : goal.invariant-loop-brick
invariant-loop-brick l = record {
  from : 1 ≤ l.brick;
  so_far : l.cost +ℤ cost_from l.brick l.self.bricks l.p ≡ cost l.self l.p;
  small : unsigned_abs l.cost + magnitude_from l.brick l.self.bricks ≤ total_magnitude l.self;
}
