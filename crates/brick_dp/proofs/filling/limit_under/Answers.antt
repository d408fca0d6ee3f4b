use Rattle.std.proofs.Common.{◌-ℤ◌, pos, refl, arith, rules, subst, Option, FitsSigned}
use Rattle.std.specs.Int.{w128}
use Rattle.std.proofs.lemmas.Int.{ints, to_z-of_z, fits_signed_from_abs}
use Rattle.std.proofs.lemmas.Bool.{OnTrue_at, OnFalse_at}
use Rattle.run_theory.specs.declared.Key.{Key}
use Rattle.run_theory.specs.Keys.{IsNoWorse}
use Rattle.brick_dp.specs.Needs.{IsNeeded}
use Rattle.brick_dp.proofs.filling.limit_under.Goals as goal
use Rattle.brick_dp.proofs.filling.limit_under.Goals.{After-needed-need}

-- what the bound asks for
needed : (g : _) (c : After-needed-need g) → IsNeeded c.args.k (g.B.Bound.last c.now.new.self) c.needed-need.result
needed g c =
    subst (λ (b : Option Key). IsNeeded c.args.k b c.needed-need.result) c.now.ensures.answer c.needed-need.ensures

-- its negation fits
less : (g : _) (c : After-needed-need g) → FitsSigned w128 (pos 0 -ℤ c.needed-need.result)
less g c = fits_signed_from_abs w128 _ (omega (arith, ints, (needed g c).low, (needed g c).high))

-- and so does the limit
limit : (g : _) (c : After-needed-need g) → FitsSigned w128 ((pos 0 -ℤ c.needed-need.result) -ℤ c.args.floor)
limit g c = fits_signed_from_abs w128 _ (omega (arith, ints, (needed g c).low, (needed g c).high, c.requires))

pub returns-then-any_within-clause-limit : goal.returns-then-any_within-clause-limit
returns-then-any_within-clause-limit g c =
    let past = (goal.at.returns-then-any_within-clause-limit g c).After-needed-need in
    let need : FitsSigned w128 c.needed-need.result = search rules in
    let floor : FitsSigned w128 c.args.floor = search rules in
    let less : FitsSigned w128 (pos 0 -ℤ c.needed-need.result) = less g past in
    let limit : FitsSigned w128 ((pos 0 -ℤ c.needed-need.result) -ℤ c.args.floor) = limit g past in
    let told = simp to_z-of_z at c.any_within.ensures.within in
    simp to_z-of_z (c.needed-need.result, needed g past, refl, OnTrue_at c.if-any_within.true told)

pub returns-else-any_within-clause-limit : goal.returns-else-any_within-clause-limit
returns-else-any_within-clause-limit g c =
    let past = (goal.at.returns-else-any_within-clause-limit g c).After-needed-need in
    let need : FitsSigned w128 c.needed-need.result = search rules in
    let floor : FitsSigned w128 c.args.floor = search rules in
    let less : FitsSigned w128 (pos 0 -ℤ c.needed-need.result) = less g past in
    let limit : FitsSigned w128 ((pos 0 -ℤ c.needed-need.result) -ℤ c.args.floor) = limit g past in
    let told = simp to_z-of_z at c.any_within.ensures.above in
    (c.needed-need.result, needed g past, OnFalse_at c.if-any_within.false told)

pub returns-then-any_within-clause-better : goal.returns-then-any_within-clause-better
returns-then-any_within-clause-better g c =
    subst (λ (b : Option Key). IsNoWorse (g.B.Bound.last c.args.bound.now) b) c.now.ensures.answer c.now.ensures.better

pub returns-else-any_within-clause-better : goal.returns-else-any_within-clause-better
returns-else-any_within-clause-better g c =
    subst (λ (b : Option Key). IsNoWorse (g.B.Bound.last c.args.bound.now) b) c.now.ensures.answer c.now.ensures.better
