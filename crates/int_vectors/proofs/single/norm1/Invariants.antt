use Rattle.std.proofs.Common.{◌≡◌, ◌≤◌, ◌^◌, ◌*◌, take}
use Rattle.lattice_theory.specs.Vectors as vector
use Rattle.int_vectors.proofs.single.norm1.Given as goal

abbrev pub invariant-loop-x : goal.invariant-loop-x
invariant-loop-x l = record { so_far : l.norm ≡ vector.norm1 (take l.x-index l.a); small : l.norm ≤ 2 ^ 63 * l.x-index }
