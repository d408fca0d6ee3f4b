use Rattle.std.proofs.Common.{rules, FitsSigned, ◌+ℤ◌, Some, None, subst, sym}
use Rattle.std.specs.Int.{w128}
use Rattle.std.proofs.lemmas.Int.{to_z-of_z}
use Rattle.lattice_theory.specs.SignedSums.{vectors}
use Rattle.sieve_laws.specs.Sieve.{IsOffer, live}
use Rattle.layer_sieve.specs.Reaching.{IsReach}
use Rattle.layer_sieve.proofs.ReachLaws.{sum_fits, whole_cell}
use Rattle.layer_sieve.proofs.reaching.offer.Goals as goal

pub returns-in_err-reached : goal.returns-in_err-reached
returns-in_err-reached c =
    let limit : FitsSigned w128 c.args.limit = search rules in
    let none : IsOffer (vectors c.args.targets.now) (live c.args.limit c.args.next.now) c.args.m c.args.from None =
    simp to_z-of_z at c.in_err-reached.ensures in
    subst (IsOffer (vectors c.args.targets.now) (live c.args.limit c.args.next.now) c.args.m c.args.from)
    (sym c.from_residual.ensures) none

pub overflow_add-result : goal.overflow_add-result
overflow_add-result c =
    let limit : FitsSigned w128 c.args.limit = search rules in
    let reach : IsReach (vectors c.args.targets.now) (live c.args.limit c.args.next.now) c.args.m.place c.args.from
    (Some c.in_ok-reached.reached) = simp to_z-of_z at c.in_ok-reached.ensures in
    let change : FitsSigned w128 c.args.m.change = search rules in
    let rest : FitsSigned w128 c.in_ok-reached.reached.rest = search rules in
    simp to_z-of_z (
    sum_fits c.args.m.change c.in_ok-reached.reached.rest c.requires.fair.small
    (c.requires.small c.in_ok-reached.reached.to c.in_ok-reached.reached.rest
    (whole_cell (vectors c.args.targets.now) c.args.next.now c.args.m.place c.args.from c.args.limit
    c.in_ok-reached.reached reach))
    )

pub returns : goal.returns
returns c =
    let limit : FitsSigned w128 c.args.limit = search rules in
    let reach : IsReach (vectors c.args.targets.now) (live c.args.limit c.args.next.now) c.args.m.place c.args.from
    (Some c.in_ok-reached.reached) = simp to_z-of_z at c.in_ok-reached.ensures in
    let change : FitsSigned w128 c.args.m.change = search rules in
    let rest : FitsSigned w128 c.in_ok-reached.reached.rest = search rules in
    let sum : FitsSigned w128 (c.args.m.change +ℤ c.in_ok-reached.reached.rest) =
    sum_fits c.args.m.change c.in_ok-reached.reached.rest c.requires.fair.small
    (c.requires.small c.in_ok-reached.reached.to c.in_ok-reached.reached.rest
    (whole_cell (vectors c.args.targets.now) c.args.next.now c.args.m.place c.args.from c.args.limit
    c.in_ok-reached.reached reach)) in (
      c.in_ok-reached.reached.rest,
      record { to = c.in_ok-reached.reached.to; leads = reach.0; cell = reach.1 },
      simp to_z-of_z,
    )
