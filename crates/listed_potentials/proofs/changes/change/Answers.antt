use Rattle.std.proofs.Common.{rules, arith, ◌≡◌, ◌-ℤ◌, ◌∙◌, sym, subst, Some, FitsSigned}
use Rattle.std.specs.Int.{w128}
use Rattle.std.proofs.lemmas.Int.{to_z-of_z, fits_signed_from_abs}
use Rattle.fold_theory.specs.Programs.{is_within}
use Rattle.fold_laws.proofs.Bounds.{is_within_true}
use Rattle.fold_program.specs.Places.{OfBrick}
use Rattle.listed_potentials.specs.Moves.{change_of}
use Rattle.listed_potentials.proofs.RowLaws.{closed_change, change_fits}
use Rattle.fold_program.proofs.PlaceLaws.{for_brick}
use Rattle.listed_potentials.proofs.changes.change.Goals as goal

pub brick_cost-requires-clause-within : goal.brick_cost-requires-clause-within
brick_cost-requires-clause-within c =
    λ b there. is_within_true b c.args.to.now
    (sym (for_brick c.args.program.now c.args.brick (λ d. c.is_within.result ≡ is_within d c.args.to.now)
    c.is_within.ensures b there)
    ∙ c.if-not-is_within.false)

pub overflow_sub-result : goal.overflow_sub-result
overflow_sub-result c =
    let after : FitsSigned w128 c.brick_cost.result = search rules in
    let before : FitsSigned w128 c.brick_cost-in-Closed.result = search rules in
    let small = change_fits c.args.program.now c.args.brick c.brick_cost.result c.brick_cost-in-Closed.result
    c.n.ensures.magnitude
    c.brick_cost.ensures.small c.brick_cost-in-Closed.ensures.small in
    simp to_z-of_z
    (fits_signed_from_abs w128 (c.brick_cost.result -ℤ c.brick_cost-in-Closed.result) (omega (arith, small)))

pub returns-in-Closed-clause-small : goal.returns-in-Closed-clause-small
returns-in-Closed-clause-small c =
    let after : FitsSigned w128 c.brick_cost.result = search rules in
    let before : FitsSigned w128 c.brick_cost-in-Closed.result = search rules in
    let small = change_fits c.args.program.now c.args.brick c.brick_cost.result c.brick_cost-in-Closed.result
    c.n.ensures.magnitude
    c.brick_cost.ensures.small c.brick_cost-in-Closed.ensures.small in
    let fits : FitsSigned w128 (c.brick_cost.result -ℤ c.brick_cost-in-Closed.result) =
    fits_signed_from_abs w128 _ (omega (arith, small)) in
    simp to_z-of_z small

pub returns-in-Closed-clause-change : goal.returns-in-Closed-clause-change
returns-in-Closed-clause-change c =
    let after : FitsSigned w128 c.brick_cost.result = search rules in
    let before : FitsSigned w128 c.brick_cost-in-Closed.result = search rules in
    let small = change_fits c.args.program.now c.args.brick c.brick_cost.result c.brick_cost-in-Closed.result
    c.n.ensures.magnitude
    c.brick_cost.ensures.small c.brick_cost-in-Closed.ensures.small in
    let fits : FitsSigned w128 (c.brick_cost.result -ℤ c.brick_cost-in-Closed.result) =
    fits_signed_from_abs w128 _ (omega (arith, small)) in
    let within = subst (λ t. OfBrick c.args.program.now c.args.brick (λ b. t ≡ is_within b c.args.to.now))
    c.if-not-is_within.false c.is_within.ensures in
    let there = closed_change c.args.program.now c.args.brick c.args.at.now c.args.to.now c.brick_cost-in-Closed.result
    c.brick_cost.result within c.brick_cost.ensures.cost c.brick_cost-in-Closed.ensures.cost in
    simp to_z-of_z (
    subst (λ q. OfBrick c.args.program.now c.args.brick
    (λ b. Some (c.brick_cost.result -ℤ c.brick_cost-in-Closed.result) ≡ change_of q b c.args.at.now c.args.to.now))
    (sym c.in-Closed.is) there
    )
