use Rattle.layer_sieve.proofs.SumLaws.{IsWritten}
use Rattle.layer_sieve.proofs.targets.write_sum.Given as goal

abbrev pub invariant-loop-at : goal.invariant-loop-at
invariant-loop-at l = IsWritten l.into l.first l.second l.at
