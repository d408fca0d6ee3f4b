use Rattle.std.proofs.Common.{arith, rules, None, FitsSigned}
use Rattle.std.specs.Int.{w128}
use Rattle.std.proofs.lemmas.Int.{to_z-of_z}
use Rattle.lattice_theory.specs.SignedSums.{vectors}
use Rattle.layer_sieve.proofs.ReachLaws.{read_at, target_low, reach_nowhere, reach_end}
use Rattle.layer_sieve.proofs.reaching.reached_from.Goals as goal

pub returns-in_default : goal.returns-in_default
returns-in_default c = reach_nowhere (vectors c.args.targets.now) c.args.next.now c.args.h c.args.from c.target.result
    c.in_default.is c.target.ensures

pub bounds : goal.bounds
bounds c =
    omega (arith, c.requires.size, target_low c.args.targets.now c.args.h c.args.from c.in-Some.to c.in-Some.ensures)

pub returns-in_default-next : goal.returns-in_default-next
returns-in_default-next c =
    let low = target_low c.args.targets.now c.args.h c.args.from c.in-Some.to c.in-Some.ensures in
    reach_end (vectors c.args.targets.now) c.args.next.now c.args.h c.args.from c.requires.rising c.in-Some.to
    c.in-Some.ensures
    (read_at c.args.next.now c.in-Some.to None None (omega (arith, low, c.requires.size)) c.in_default-next.is)

pub returns : goal.returns
returns c =
    let low = target_low c.args.targets.now c.args.h c.args.from c.in-Some.to c.in-Some.ensures in
    let rest : FitsSigned w128 c.in-Some-next.rest = search rules in
    simp to_z-of_z (
      c.in-Some.ensures,
      read_at c.args.next.now c.in-Some.to None _ (omega (arith, low, c.requires.size)) c.in-Some-next.is,
    )
