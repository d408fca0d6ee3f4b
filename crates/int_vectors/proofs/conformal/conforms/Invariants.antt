use Rattle.std.proofs.Common.{◌≡◌, drop, length}
use Rattle.lattice_theory.specs.Vectors as vector
use Rattle.int_vectors.proofs.conformal.conforms.Given as goal

abbrev pub invariant-loop-x : goal.invariant-loop-x
invariant-loop-x l = vector.conforms (drop (length l.yielded) l.a) (drop (length l.yielded) l.b) ≡ vector.conforms l.a
    l.b
