use Rattle.std.proofs.Common.{◌≡◌, take}
use Rattle.lattice_theory.specs.Vectors.{sub}
use Rattle.vector_sums.proofs.subtract_into.Given as goal

abbrev pub invariant-loop-at : goal.invariant-loop-at
invariant-loop-at l = take l.at l.difference ≡ take l.at (sub l.u l.v)
