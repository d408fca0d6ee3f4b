use Rattle.std.proofs.Common.{◌≡◌, All, flat_map, take}
use Rattle.convex_costs.specs.Bounds.{AreBounded}
use Rattle.fold_gen.specs.Transports.{brick_of}
use Rattle.fold_gen.proofs.programs.costs.Given as goal

-- the costs of the customers so far
abbrev pub invariant-loop-customer : goal.invariant-loop-customer
invariant-loop-customer l = record {
  made : l.costs.items ≡ flat_map (λ c. (brick_of c).costs) (take l.customer-index l.customers);
  numbers : All AreBounded l.costs.items;
}
