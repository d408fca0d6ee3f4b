use Rattle.std.proofs.Common.{◌≡◌, true, false, arith, sym, ◌∙◌}
use Rattle.std.proofs.lemmas.Int.{ints}
use Rattle.convex_costs.proofs.Neighbours.{first_bend-pass, first_bend-fail, first_bend-end, slope_rises, rising_to}
use Rattle.convex_costs.proofs.Neighbours.{rising_before, origin}
use Rattle.convex_costs.proofs.lines.first_bend.Goals as goal

pub slope-before-requires : goal.slope-before-requires
slope-before-requires c =
    let ps = c.args.points.now in
    record { order = rising_before ps c.loop-at.at origin c.requires.rising c.loop-at.auto.at c.loop-at-test.true }

pub slope-requires : goal.slope-requires
slope-requires c =
    record {
      order = rising_to c.args.points.now c.loop-at.at origin c.requires.rising (omega arith)
          c.loop-at-test.true;
    }

pub returns-then-slope-before : goal.returns-then-slope-before
returns-then-slope-before c =
    let ps = c.args.points.now in
    let at = c.loop-at.at in
    let before = c.slope-before.ensures.slope in
    let here = c.slope.ensures.slope in
    let falls : slope_rises ps at origin ≡ false = grind (arith, ints, before, here, c.if-slope-before.true) in
    sym (first_bend-fail ps at origin c.loop-at.auto.at c.loop-at-test.true falls) ∙ c.loop-at.invariant

pub loop-at-preserved : goal.loop-at-preserved
loop-at-preserved c =
    let ps = c.args.points.now in
    let at = c.loop-at.at in
    let before = c.slope-before.ensures.slope in
    let here = c.slope.ensures.slope in
    let passes : slope_rises ps at origin ≡ true = grind (arith, ints, before, here, c.if-slope-before.false) in
    sym (first_bend-pass ps at origin c.loop-at.auto.at c.loop-at-test.true passes) ∙ c.loop-at.invariant

pub returns : goal.returns
returns c =
    let ps = c.args.points.now in
    sym (first_bend-end ps c.loop-at.at c.loop-at.auto.at c.loop-at-test.false) ∙ c.loop-at.invariant
