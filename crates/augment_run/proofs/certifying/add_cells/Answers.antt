use Rattle.augment_run.proofs.SumRows.{cell_more}
use Rattle.augment_run.proofs.certifying.add_cells.Goals as goal

pub loop-i-preserved : goal.loop-i-preserved
loop-i-preserved c =
    cell_more c.args.potentials.now c.args.layer c.loop-i.i c.get.result _ c.loop-i.cells.items _ c.get.ensures
    c.loop-i.invariant
    c.in_ok-push.ensures.items
