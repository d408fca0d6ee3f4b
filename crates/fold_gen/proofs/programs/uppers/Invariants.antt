use Rattle.std.proofs.Common.{◌≡◌, flat_map, take}
use Rattle.lattice_theory.specs.Vectors.{IsBoundedRow}
use Rattle.fold_gen.specs.Transports.{brick_of}
use Rattle.fold_gen.proofs.programs.uppers.Given as goal

-- the bounds of the customers so far
abbrev pub invariant-loop-customer : goal.invariant-loop-customer
invariant-loop-customer l = record {
  made : l.uppers.items ≡ flat_map (λ c. (brick_of c).upper) (take l.customer-index l.customers);
  bounded : IsBoundedRow l.uppers.items;
}
