use Rattle.std.proofs.Common.{◌≡◌, ◌-◌, drop}
use Rattle.convex_costs.specs.Faults.{first_failing, is_right}
use Rattle.convex_costs.proofs.lines.first_not_rising.Given as goal

abbrev pub invariant-loop-at : goal.invariant-loop-at
invariant-loop-at l = first_failing is_right l.at (drop (l.at - 1) l.points) ≡ first_failing is_right 1 l.points
