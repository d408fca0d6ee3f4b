use Rattle.std.proofs.Common.{◌≡◌, ◌++◌}
use Rattle.lattice_theory.specs.Vectors as vector
use Rattle.vector_sums.proofs.sum.Given as goal

abbrev pub invariant-loop-x : goal.invariant-loop-x
invariant-loop-x l = l.made.items ++ vector.add l.x-iterator.a.rest.now l.x-iterator.b.rest.now ≡ vector.add l.u l.v
