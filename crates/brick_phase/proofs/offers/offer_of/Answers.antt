use Rattle.std.proofs.Common.{◌≡◌, ◌≤ℤ◌, length, arith, ap, subst, ◌∙◌}
use Rattle.std.proofs.lemmas.List.Elements.{length_all_zip}
use Rattle.fold_theory.specs.Programs.{brick_residual}
use Rattle.run_theory.specs.BrickRuns.{BrickMove, stepped}
use Rattle.fold_program.specs.Places.{OfBrick}
use Rattle.step_targets.specs.Targets.{Leads}
use Rattle.brick_phase.proofs.OfferLaws.{place_width, led, nothing_outside, nothing_lower, offered}
use Rattle.brick_phase.proofs.offers.offer_of.Goals as goal

pub target-requires-clause-lowers : goal.target-requires-clause-lowers
target-requires-clause-lowers c =
    let size = place_width c.args.program.now c.args.brick _ c.lower_row-lower.result.now c.args.at.now
    c.lower_row-lower.ensures.width c.lower_row-lower.ensures.bounds c.requires.place in
    omega (arith, size, c.lower_row-lower.ensures.width, ap length c.deref.ensures.value)

pub target-requires-clause-uppers : goal.target-requires-clause-uppers
target-requires-clause-uppers c =
    let size = place_width c.args.program.now c.args.brick _ c.lower_row-lower.result.now c.args.at.now
    c.lower_row-lower.ensures.width c.lower_row-lower.ensures.bounds c.requires.place in
    omega (arith, size, c.upper_row-upper.ensures.width, ap length c.deref.ensures.value)

pub target-requires-clause-width : goal.target-requires-clause-width
target-requires-clause-width c =
    let size = place_width c.args.program.now c.args.brick _ c.lower_row-lower.result.now c.args.at.now
    c.lower_row-lower.ensures.width c.lower_row-lower.ensures.bounds c.requires.place in
    omega (arith, size, c.requires.width, ap length c.deref.ensures.value)

pub residual-residual-requires-clause-width : goal.residual-residual-requires-clause-width
residual-residual-requires-clause-width c =
    let size = place_width c.args.program.now c.args.brick _ c.lower_row-lower.result.now c.args.at.now
    c.lower_row-lower.ensures.width c.lower_row-lower.ensures.bounds c.requires.place in
    let to = led c.args.program.now c.args.brick c.lower_row-lower.result.now c.upper_row-upper.result.now
    c.lower_row-lower.ensures.bounds c.upper_row-upper.ensures.bounds
    c.deref.result.now _ c.in_ok-point.field-0 c.in-Some.point c.in_ok-point.ensures c.in-Some.is in
    omega (
      arith,
      ap length c.deref-2.ensures.value,
      length_all_zip ◌≤ℤ◌ c.lower_row-lower.result.now _ to.0.0,
      ap length to.1,
      c.lower_row-lower.ensures.width,
    )

pub returns-in_default : goal.returns-in_default
returns-in_default c =
    let leads = subst (λ v. Leads c.lower_row-lower.result.now c.upper_row-upper.result.now
    (stepped v (record { k = c.args.k; vector = c.args.vector.now })) c.in_ok-point.field-0)
    c.deref.ensures.value c.in_ok-point.ensures in
    nothing_outside c.args.program.now c.args.brick c.lower_row-lower.result.now c.upper_row-upper.result.now
    c.lower_row-lower.ensures.bounds c.upper_row-upper.ensures.bounds
    c.args.at.now.point.items _ c.in_ok-point.field-0 leads c.in_default.is

pub returns-then-residual-at : goal.returns-then-residual-at
returns-then-residual-at c =
    let m : BrickMove = record { k = c.args.k; vector = c.args.vector.now } in
    let leads = subst (λ v. Leads c.lower_row-lower.result.now c.upper_row-upper.result.now (stepped v m)
    c.in_ok-point.field-0) c.deref.ensures.value c.in_ok-point.ensures in
    let to = led c.args.program.now c.args.brick c.lower_row-lower.result.now c.upper_row-upper.result.now
    c.lower_row-lower.ensures.bounds c.upper_row-upper.ensures.bounds
    c.args.at.now.point.items m c.in_ok-point.field-0 c.in-Some.point leads c.in-Some.is in
    nothing_lower c.args.program.now c.args.brick c.lower_row-lower.result.now c.upper_row-upper.result.now
    c.lower_row-lower.ensures.bounds c.upper_row-upper.ensures.bounds
    c.args.at.now m c.deref-2.result.now c.residual-residual.result (c.deref-2.ensures.value ∙ to.1)
    c.residual-residual.ensures.value c.requires.place (omega arith)

pub returns : goal.returns
returns c =
    let m : BrickMove = record { k = c.args.k; vector = c.args.vector.now } in
    let leads = subst (λ v. Leads c.lower_row-lower.result.now c.upper_row-upper.result.now (stepped v m)
    c.in_ok-point.field-0) c.deref.ensures.value c.in_ok-point.ensures in
    let own = subst (λ v. OfBrick c.args.program.now c.args.brick
    (λ b. c.residual-residual.result ≡ brick_residual c.args.program.now b v)) c.deref-2.ensures.value
    c.residual-residual.ensures.value in
    offered c.args.program.now c.args.brick c.lower_row-lower.result.now c.upper_row-upper.result.now
    c.lower_row-lower.ensures.bounds c.upper_row-upper.ensures.bounds
    c.args.at.now m c.in_ok-point.field-0 _ leads c.in-Some.is own c.requires.place (omega arith)
    (λ t. record { k = c.args.k; vector = c.in_ok-vector.ensures.items t })
