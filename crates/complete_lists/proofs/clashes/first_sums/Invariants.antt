use Rattle.std.proofs.Common.{◌≡◌, take}
use Rattle.lattice_theory.specs.Vectors as vector
use Rattle.complete_lists.proofs.clashes.first_sums.Given as goal

abbrev pub invariant-loop-at : goal.invariant-loop-at
invariant-loop-at l = l.sums.items ≡ take l.at (vector.add l.f l.g)
