use Rattle.std.proofs.Common.{◌≡◌, ◌-◌, ◌^◌, min, fold}
use Rattle.lattice_theory.specs.Lattices.{multiples}
use Rattle.int_vectors.proofs.conformal.greatest_multiple.Given as goal

abbrev pub invariant-loop-x : goal.invariant-loop-x
invariant-loop-x l =
    fold min l.most (multiples l.x-iterator.a.rest.now l.x-iterator.b.rest.now) ≡ fold min (2 ^ 64 - 1)
    (multiples l.e l.v)
