use Rattle.std.proofs.Common.{◌≡◌, ◌-◌, get_or, true, arith, sym, ◌∙◌}
use Rattle.std.proofs.lemmas.Int.{ints}
use Rattle.convex_costs.specs.Faults.{is_right}
use Rattle.convex_costs.proofs.Neighbours.{first_failing-pass, first_failing-end, origin}
use Rattle.convex_costs.proofs.lines.first_not_rising.Goals as goal

pub loop-at-preserved : goal.loop-at-preserved
loop-at-preserved c =
    let ps = c.args.points.now in
    let at = c.loop-at.at in
    let not_left = c.if-points-at.false in
    let passes : is_right (get_or ps (at - 1) origin) (get_or ps at origin) ≡ true = grind (arith, ints, not_left) in
    sym (first_failing-pass is_right ps at origin c.loop-at.auto.at c.loop-at-test.true passes) ∙ c.loop-at.invariant

pub returns : goal.returns
returns c =
    let ps = c.args.points.now in
    sym (first_failing-end is_right ps c.loop-at.at c.loop-at.auto.at c.loop-at-test.false) ∙ c.loop-at.invariant
