use Rattle.fold_theory.specs.Programs.{is_within}
use Rattle.cert_checker.proofs.PointLaws.{row-passes, row-fails}
use Rattle.std.proofs.Common.{◌∙◌}
use Rattle.cert_checker.proofs.points.are_within.Goals as goal

pub returns-then-not-is_within : goal.returns-then-not-is_within
returns-then-not-is_within c =
    row-fails is_within c.args.program.now c.args.point.now.rows c.loop-before.before c.row.result.now
    c.is_within.result
    c.is_within.ensures c.row.ensures.entries c.if-not-is_within.true c.loop-before.invariant

pub loop-before-preserved : goal.loop-before-preserved
loop-before-preserved c =
    row-passes is_within c.args.program.now c.args.point.now.rows c.loop-before.before c.row.result.now
    c.is_within.result
    c.is_within.ensures c.row.ensures.entries c.if-not-is_within.false
    ∙ c.loop-before.invariant
