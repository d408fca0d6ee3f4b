use Rattle.lattice_theory.specs.SignedSums.{vectors}
use Rattle.layer_sieve.proofs.SumLaws.{target_found, target_wide}
use Rattle.layer_sieve.proofs.targets.target.Goals as goal

pub returns-then-write_sum-clause-target : goal.returns-then-write_sum-clause-target
returns-then-write_sum-clause-target c =
    target_found (vectors c.args.sums.now) c.args.h c.args.from c.get.result.now c.get-2.result.now c.get.ensures.vector
    c.get-2.ensures.vector
    c.write_sum.new.into c.find.result c.if-write_sum.ensures.held c.find.ensures

pub returns-else-write_sum-clause-target : goal.returns-else-write_sum-clause-target
returns-else-write_sum-clause-target c =
    target_wide (vectors c.args.sums.now) c.args.h c.args.from c.get.result.now c.get-2.result.now c.get.ensures.vector
    c.get-2.ensures.vector
    c.requires.words c.if-write_sum.ensures.wide
