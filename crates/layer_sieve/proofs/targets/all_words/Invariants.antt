use Rattle.std.proofs.Common.{All}
use Rattle.lattice_theory.specs.SignedSums.{vectors}
use Rattle.layer_sieve.specs.Targets.{IsWord}
use Rattle.layer_sieve.proofs.TargetLaws.{HoldsUpTo}
use Rattle.layer_sieve.proofs.targets.all_words.Given as goal

abbrev pub invariant-loop-i : goal.invariant-loop-i
invariant-loop-i l = HoldsUpTo (λ v. All IsWord v) (vectors l.sums) l.i
