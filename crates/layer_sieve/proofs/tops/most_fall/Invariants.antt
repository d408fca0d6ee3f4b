use Rattle.sieve_laws.proofs.Tops.{FallsMost}
use Rattle.layer_sieve.proofs.tops.most_fall.Given as goal

abbrev pub invariant-loop-at : goal.invariant-loop-at
invariant-loop-at l = FallsMost l.next l.layer l.limit l.most l.at
