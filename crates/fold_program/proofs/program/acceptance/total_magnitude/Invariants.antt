use Rattle.std.proofs.Common.{◌≡◌, ◌-◌, ◌^◌, take, min, sum_by}
use Rattle.fold_program.specs.Bounds.{cost_magnitude}
use Rattle.fold_program.proofs.program.acceptance.total_magnitude.Given as goal

abbrev pub invariant-loop-cost : goal.invariant-loop-cost
invariant-loop-cost l = l.total ≡ min (sum_by cost_magnitude (take l.cost-index l.costs)) (2 ^ 128 - 1)
