use Rattle.std.proofs.Common.{◌≡◌, drop}
use Rattle.lattice_theory.specs.Vectors as vector
use Rattle.int_vectors.proofs.single.leads_positive.Given as goal

abbrev pub invariant-loop-x : goal.invariant-loop-x
invariant-loop-x l = vector.leads_positive (drop l.x-index l.a) ≡ vector.leads_positive l.a
