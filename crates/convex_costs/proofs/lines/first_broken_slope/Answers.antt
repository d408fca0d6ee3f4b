use Rattle.std.proofs.Common.{sym, ◌∙◌}
use Rattle.convex_costs.specs.Faults.{has_whole_slope}
use Rattle.convex_costs.proofs.Neighbours.{first_failing-end, rising_to, origin}
use Rattle.convex_costs.proofs.lines.first_broken_slope.Goals as goal

pub has_whole_slope-requires : goal.has_whole_slope-requires
has_whole_slope-requires c =
    let ps = c.args.points.now in
    record { order = rising_to ps c.loop-at.at origin c.requires.rising c.loop-at.auto.at c.loop-at-test.true }

pub returns : goal.returns
returns c =
    let ps = c.args.points.now in
    sym (first_failing-end has_whole_slope ps c.loop-at.at c.loop-at.auto.at c.loop-at-test.false) ∙ c.loop-at.invariant
