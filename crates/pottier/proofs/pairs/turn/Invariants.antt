use Rattle.std.proofs.Common.{◌≡◌, take, drop, ◌++◌}
use Rattle.lattice_theory.specs.Vectors.{opposite}
use Rattle.pottier.proofs.pairs.turn.Given as goal

abbrev pub invariant-loop-x : goal.invariant-loop-x
invariant-loop-x l = l.z ≡ opposite (take l.x-index l.initial.z) ++ drop l.x-index l.initial.z
