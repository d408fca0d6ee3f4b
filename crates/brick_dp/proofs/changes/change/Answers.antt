use Rattle.std.proofs.Common.{◌∙◌, ◌-ℤ◌, sym, subst, arith, rules, Some, FitsSigned}
use Rattle.std.specs.Int.{w128}
use Rattle.std.proofs.lemmas.Int.{to_z-of_z, fits_signed_from_abs}
use Rattle.fold_theory.specs.declared.Phase.TheVariants as phase
use Rattle.fold_program.specs.Places.{OfBrick}
use Rattle.brick_dp.specs.Changes.{IsChange}
use Rattle.brick_dp.proofs.ChangeLaws.{led_to, closed_change, change_fits}
use Rattle.brick_dp.proofs.changes.change.Goals as goal

pub overflow_sub-result : goal.overflow_sub-result
overflow_sub-result c =
    let after : FitsSigned w128 c.brick_cost.result = search rules in
    let before : FitsSigned w128 c.brick_cost-in-Closed.result = search rules in
    let small = change_fits c.program-program.result.now c.args.brick c.brick_cost.result c.brick_cost-in-Closed.result
    c.n.ensures.magnitude c.brick_cost.ensures.small
    c.brick_cost-in-Closed.ensures.small in
    simp to_z-of_z (fits_signed_from_abs w128 (c.brick_cost.result -ℤ c.brick_cost-in-Closed.result)
    (omega (arith, small)))

pub returns : goal.returns
returns c =
    let after : FitsSigned w128 c.brick_cost.result = search rules in
    let before : FitsSigned w128 c.brick_cost-in-Closed.result = search rules in
    let small = change_fits c.program-program.result.now c.args.brick c.brick_cost.result c.brick_cost-in-Closed.result
    c.n.ensures.magnitude c.brick_cost.ensures.small
    c.brick_cost-in-Closed.ensures.small in
    let fits : FitsSigned w128 (c.brick_cost.result -ℤ c.brick_cost-in-Closed.result) =
    fits_signed_from_abs w128 _ (omega (arith, small)) in
    let led = led_to c.lower_row-lower.result.now c.upper_row-upper.result.now _ c.in_ok-end.field-0 c.in-Some.end
    c.in_ok-end.ensures c.in-Some.is in
    let change = closed_change c.program-program.result.now c.args.brick c.args.k c.args.at.now c.args.part.now
    c.deref.result.now c.lower_row-lower.result.now
    c.upper_row-upper.result.now c.brick_cost.result c.brick_cost-in-Closed.result c.lower_row-lower.ensures.bounds
    c.upper_row-upper.ensures.bounds led.0
    (c.deref.ensures.value ∙ led.1) c.brick_cost.ensures.cost c.brick_cost.ensures.small
    c.brick_cost-in-Closed.ensures.cost c.brick_cost-in-Closed.ensures.small in
    let there = subst (λ p. OfBrick p c.args.brick (λ b. IsChange phase.Closed c.args.k b c.args.at.now c.args.part.now
    (Some (c.brick_cost.result -ℤ c.brick_cost-in-Closed.result))))
    c.program-program.ensures change in
    simp to_z-of_z (
    subst (λ q. OfBrick c.args.fold.now.program c.args.brick (λ b. IsChange q c.args.k b c.args.at.now c.args.part.now
    (Some (c.brick_cost.result -ℤ c.brick_cost-in-Closed.result))))
    (sym c.in-Closed.is ∙ c.phase.ensures) there
    )
