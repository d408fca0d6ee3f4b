use Rattle.std.proofs.Common.{◌≡◌, ◌++◌, map, pos, take}
use Rattle.lattice_theory.specs.Vectors.{IsBoundedRow}
use Rattle.fold_gen.specs.Transports.{sent}
use Rattle.fold_gen.proofs.programs.rights.Given as goal

-- what is sent, and the demands so far
abbrev pub invariant-loop-customer : goal.invariant-loop-customer
invariant-loop-customer l = record {
  made : l.rights.items ≡ sent l.customers ++ map (λ c. pos c.demand) (take l.customer-index l.customers);
  bounded : IsBoundedRow l.rights.items;
}
