use Rattle.std.proofs.Common.{◌≤◌, ◌≤ℤ◌, unsigned_abs, FitsSigned, subst, ap, sym, ◌∙◌, rules}
use Rattle.std.specs.Int.{w128}
use Rattle.std.proofs.lemmas.Int.{to_z-of_z}
use Rattle.fold_theory.specs.Costs.{value, magnitude}
use Rattle.lattice_laws.proofs.Tests.{is_bounded_true}
use Rattle.convex_costs.specs.Bounds.{IsAccepted, AreBounded}
use Rattle.convex_costs.proofs.Numbers.{fits_64}
use Rattle.convex_costs.proofs.Accepted.{accepted_convex, accepted_small, accepted_terms, accepted_rising}
use Rattle.convex_costs.proofs.bound_cost.BoundCost.value.Goals as goal

pub quadratic-requires : goal.quadratic-requires
quadratic-requires c =
    let is = c.in-Quadratic.is in
    let kept = subst (λ k. IsAccepted k c.self.inside.lower c.self.inside.upper) is c.self.invariant.0 in
    let low : c.self.inside.lower ≤ℤ c.args.v = subst (λ b. b.lower ≤ℤ c.args.v) (sym c.self.view_is) c.requires.low in
    let high : c.args.v ≤ℤ c.self.inside.upper = subst (λ b. c.args.v ≤ℤ b.upper) (sym c.self.view_is)
    c.requires.high in
    let fits_a = fits_64 c.in-Quadratic.a (is_bounded_true c.in-Quadratic.a kept.numbers.0) in
    let fits_b = fits_64 c.in-Quadratic.b (is_bounded_true c.in-Quadratic.b kept.numbers.1) in
    let fits_c = fits_64 c.in-Quadratic.c (is_bounded_true c.in-Quadratic.c kept.numbers.2) in
    let fits_v = c.ranges.v in
    record { small = simp to_z-of_z (accepted_terms _ _ _ _ _ c.args.v kept low high) }

pub value_on_lines-requires-clause-rising : goal.value_on_lines-requires-clause-rising
value_on_lines-requires-clause-rising c =
    let kept = subst (λ k. IsAccepted k c.self.inside.lower c.self.inside.upper) c.in-Points.is c.self.invariant.0 in
    rw c.as_slice.ensures (accepted_rising _ _ _ kept)

pub returns-in-Quadratic-clause-small : goal.returns-in-Quadratic-clause-small
returns-in-Quadratic-clause-small c =
    let cost = c.args.self.now in
    let is = sym (ap (λ b. b.cost) c.self.view_is) ∙ c.in-Quadratic.is in
    let kept = subst (λ b. IsAccepted b.cost b.lower b.upper) c.self.view_is c.self.invariant.0 in
    let numbers = subst AreBounded is kept.numbers in
    let fits_a = fits_64 c.in-Quadratic.a (is_bounded_true c.in-Quadratic.a numbers.0) in
    let fits_b = fits_64 c.in-Quadratic.b (is_bounded_true c.in-Quadratic.b numbers.1) in
    let fits_c = fits_64 c.in-Quadratic.c (is_bounded_true c.in-Quadratic.c numbers.2) in
    let fits_v = c.ranges.v in
    let fits : FitsSigned w128 c.quadratic.result = search rules in
    let found = simp to_z-of_z at c.quadratic.ensures in
    let same = to_z-of_z w128 c.quadratic.result fits ∙ found ∙ sym (ap (λ k. value k c.args.v) is) in
    let small = accepted_small _ _ _ c.args.v kept c.requires.low c.requires.high in
    subst (λ w. unsigned_abs w ≤ magnitude cost.cost cost.lower cost.upper) (sym same) small

pub returns-in-Points-clause-small : goal.returns-in-Points-clause-small
returns-in-Points-clause-small c =
    let cost = c.args.self.now in
    let is = sym (ap (λ b. b.cost) c.self.view_is) ∙ c.in-Points.is in
    let kept = subst (λ b. IsAccepted b.cost b.lower b.upper) c.self.view_is c.self.invariant.0 in
    let fits_v = c.ranges.v in
    let fits : FitsSigned w128 c.value_on_lines.result = search rules in
    let found = rw c.as_slice.ensures at (simp to_z-of_z at c.value_on_lines.ensures) in
    let same = to_z-of_z w128 c.value_on_lines.result fits ∙ found ∙ sym (ap (λ k. value k c.args.v) is) in
    let small = accepted_small _ _ _ c.args.v kept c.requires.low c.requires.high in
    subst (λ w. unsigned_abs w ≤ magnitude cost.cost cost.lower cost.upper) (sym same) small

pub returns-in-Quadratic-clause-convex : goal.returns-in-Quadratic-clause-convex
returns-in-Quadratic-clause-convex c =
    let kept = subst (λ b. IsAccepted b.cost b.lower b.upper) c.self.view_is c.self.invariant.0 in
    accepted_convex _ _ _ kept

pub returns-in-Points-clause-convex : goal.returns-in-Points-clause-convex
returns-in-Points-clause-convex c =
    let kept = subst (λ b. IsAccepted b.cost b.lower b.upper) c.self.view_is c.self.invariant.0 in
    accepted_convex _ _ _ kept
