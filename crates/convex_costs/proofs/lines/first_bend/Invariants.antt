use Rattle.std.proofs.Common.{◌≡◌, ◌-◌, drop}
use Rattle.convex_costs.specs.Faults as faults
use Rattle.convex_costs.proofs.lines.first_bend.Given as goal

abbrev pub invariant-loop-at : goal.invariant-loop-at
invariant-loop-at l = faults.first_bend (l.at - 1) (drop (l.at - 2) l.points) ≡ faults.first_bend 1 l.points
