use Rattle.sieve_laws.proofs.Tops.{FallsLeast}
use Rattle.layer_sieve.proofs.tops.least_fall.Given as goal

abbrev pub invariant-loop-at : goal.invariant-loop-at
invariant-loop-at l = FallsLeast l.next l.layer l.least l.at
