use Rattle.std.proofs.Common.{◌≡◌, ◌-◌, drop}
use Rattle.convex_costs.specs.Faults.{first_failing, has_whole_slope}
use Rattle.convex_costs.proofs.lines.first_broken_slope.Given as goal

abbrev pub invariant-loop-at : goal.invariant-loop-at
invariant-loop-at l =
    first_failing has_whole_slope l.at (drop (l.at - 1) l.points) ≡ first_failing has_whole_slope 1 l.points
