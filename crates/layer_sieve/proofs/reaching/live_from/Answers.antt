use Rattle.std.proofs.Common.{rules, FitsSigned, sym, subst, ◌≤ℤ◌, arith}
use Rattle.std.specs.Int.{w128}
use Rattle.std.proofs.lemmas.Int.{to_z-of_z, ints}
use Rattle.lattice_theory.specs.SignedSums.{vectors}
use Rattle.layer_sieve.specs.Reaching.{IsReach}
use Rattle.sieve_laws.specs.Sieve.{live}
use Rattle.layer_sieve.proofs.ReachLaws.{reach_live, reach_dead, reach_none}
use Rattle.layer_sieve.proofs.reaching.live_from.Goals as goal

pub returns-in_err-reached : goal.returns-in_err-reached
returns-in_err-reached c =
    subst (IsReach (vectors c.args.targets.now) (live c.args.limit c.args.next.now) c.args.h c.args.from)
    (sym c.from_residual.ensures)
    (reach_none (vectors c.args.targets.now) c.args.next.now c.args.h c.args.from c.args.limit c.reached_from.result
    c.in_err-reached.was c.reached_from.ensures)

pub returns-then-reached-limit : goal.returns-then-reached-limit
returns-then-reached-limit c =
    let limit : FitsSigned w128 c.args.limit = search rules in
    let rest : FitsSigned w128 c.in_ok-reached.reached.rest = search rules in
    let test = simp to_z-of_z at c.if-reached-limit.true in
    let low : c.in_ok-reached.reached.rest ≤ℤ c.args.limit = omega (arith, ints, test) in
    reach_live (vectors c.args.targets.now) c.args.next.now c.args.h c.args.from c.args.limit c.in_ok-reached.reached
    c.in_ok-reached.ensures low

pub returns-else-reached-limit : goal.returns-else-reached-limit
returns-else-reached-limit c =
    let limit : FitsSigned w128 c.args.limit = search rules in
    let rest : FitsSigned w128 c.in_ok-reached.reached.rest = search rules in
    let test = simp to_z-of_z at c.if-reached-limit.false in
    let high : c.in_ok-reached.reached.rest ≤ℤ c.args.limit → ⊥ = (λ low. omega (arith, ints, test, low)) in
    reach_dead (vectors c.args.targets.now) c.args.next.now c.args.h c.args.from c.requires.rising c.args.limit
    c.in_ok-reached.reached c.in_ok-reached.ensures high
