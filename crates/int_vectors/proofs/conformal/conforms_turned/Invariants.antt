use Rattle.std.proofs.Common.{◌≡◌, drop, length}
use Rattle.lattice_theory.specs.Vectors as vector
use Rattle.int_vectors.proofs.conformal.conforms_turned.Given as goal

abbrev pub invariant-loop-x : goal.invariant-loop-x
invariant-loop-x l =
    vector.conforms (vector.opposite (drop (length l.yielded) l.a)) (drop (length l.yielded) l.b)
    ≡ vector.conforms (vector.opposite l.a) l.b
