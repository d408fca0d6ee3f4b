use Rattle.std.proofs.Common.{◌∙◌}
use Rattle.brick_sums.proofs.IndexLaws.{looked_up}
use Rattle.brick_sums.proofs.list.Sums.find.Goals as goal

-- the place that the look-up finds
pub returns : goal.returns
returns c =
    rw c.self.view_is at (looked_up _ _ c.self.invariant.1 c.args.v.now c.copied.result (c.copied.ensures
    ∙ c.get.ensures.value))
