use Rattle.std.proofs.Common.{arith, All}
use Rattle.lattice_theory.specs.SignedSums.{vectors}
use Rattle.layer_sieve.specs.Targets.{IsWord}
use Rattle.layer_sieve.proofs.TargetLaws.{holds_more, holds_all}
use Rattle.layer_sieve.proofs.ReachLaws.{size_vectors}
use Rattle.layer_sieve.proofs.targets.all_words.Goals as goal

pub loop-i-preserved : goal.loop-i-preserved
loop-i-preserved c =
    holds_more (λ v. All IsWord v) (vectors c.args.sums.now) c.loop-i.i c.get.result.now c.get.ensures.vector
    c.words.ensures
    c.loop-i.invariant

pub returns : goal.returns
returns c =
    holds_all (λ v. All IsWord v) (vectors c.args.sums.now) c.loop-i.i
    (omega (arith, size_vectors c.args.sums.now, c.loop-i-test.false, c.len-i-end.ensures))
    c.loop-i.invariant
