use Rattle.std.proofs.Common.{◌≡◌, take}
use Rattle.lattice_theory.specs.Vectors.{add}
use Rattle.vector_sums.proofs.add_into.Given as goal

abbrev pub invariant-loop-at : goal.invariant-loop-at
invariant-loop-at l = take l.at l.sum ≡ take l.at (add l.u l.v)
