use Rattle.std.proofs.Common.{◌≡◌, ◌<◌, ◌-◌, ◌++◌}
use Rattle.fold_gen.specs.Draws.{customers}
use Rattle.fold_gen.proofs.customers.customers.Given as goal

-- the customers so far, and those that are still to be drawn
abbrev pub invariant-loop-customer : goal.invariant-loop-customer
invariant-loop-customer l = record {
  all : l.all.items ++ customers (l.count - l._customer) l.draws.z ≡ customers l.count l.number;
  small : l.draws.z < 65537;
}
