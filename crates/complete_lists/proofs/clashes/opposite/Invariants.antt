use Rattle.std.proofs.Common.{◌≡◌, take}
use Rattle.lattice_theory.specs.Vectors as vector
use Rattle.complete_lists.proofs.clashes.opposite.Given as goal

abbrev pub invariant-loop-x : goal.invariant-loop-x
invariant-loop-x l = l.turned.items ≡ vector.opposite (take l.x-index l.v)
