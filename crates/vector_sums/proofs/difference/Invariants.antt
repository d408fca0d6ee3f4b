use Rattle.std.proofs.Common.{◌≡◌, ◌++◌}
use Rattle.lattice_theory.specs.Vectors as vector
use Rattle.vector_sums.proofs.difference.Given as goal

abbrev pub invariant-loop-x : goal.invariant-loop-x
invariant-loop-x l = l.made.items ++ vector.sub l.x-iterator.a.rest.now l.x-iterator.b.rest.now ≡ vector.sub l.u l.v
