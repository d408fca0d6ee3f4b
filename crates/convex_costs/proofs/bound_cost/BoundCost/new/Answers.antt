use Rattle.std.proofs.Common.{◌≡◌, None, rules}
use Rattle.convex_costs.specs.Faults.{shape_fault}
use Rattle.convex_costs.proofs.Accepted.{convex_without_fault}
use Rattle.convex_costs.proofs.bound_cost.BoundCost.new.Goals as goal

pub returns-in-Some-bounded_magnitude-clause-convex : goal.returns-in-Some-bounded_magnitude-clause-convex
returns-in-Some-bounded_magnitude-clause-convex c =
    let none : shape_fault c.args.cost c.args.lower c.args.upper ≡ None = search rules in
    convex_without_fault c.args.cost c.args.lower c.args.upper none
