use Rattle.std.proofs.Common.{◌≡◌, arith, length}
use Rattle.lattice_theory.specs.SignedSums.{vectors}
use Rattle.brick_sums.specs.Places.{width}
use Rattle.layer_sieve.proofs.TargetLaws.{holds_more, holds_all}
use Rattle.layer_sieve.proofs.ReachLaws.{size_vectors}
use Rattle.layer_sieve.proofs.targets.one_width.Goals as goal

pub loop-i-preserved : goal.loop-i-preserved
loop-i-preserved c =
    holds_more (λ v. length v ≡ width c.args.sums.now) (vectors c.args.sums.now) c.loop-i.i c.get-sum.result.now
    c.get-sum.ensures.vector c.get-sum.ensures.width c.loop-i.invariant

pub returns : goal.returns
returns c =
    holds_all (λ v. length v ≡ width c.args.sums.now) (vectors c.args.sums.now) c.loop-i.i
    (omega (arith, size_vectors c.args.sums.now, c.loop-i-test.false, c.len-i-end.ensures))
    c.loop-i.invariant
