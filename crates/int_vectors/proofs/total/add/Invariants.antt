use Rattle.std.proofs.Common.{◌≡◌, ◌++◌, None}
use Rattle.lattice_theory.specs.Vectors as vector
use Rattle.int_vectors.proofs.total.add.Given as goal

abbrev pub invariant-loop-x : goal.invariant-loop-x
invariant-loop-x l = record {
  so_far : l.sums.items ++ vector.add l.x-iterator.a.rest.now l.x-iterator.b.rest.now ≡ vector.add l.a l.b;
  bounded : vector.first_unbounded l.sums.items ≡ None;
}
