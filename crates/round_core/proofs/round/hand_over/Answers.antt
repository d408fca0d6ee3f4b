use Rattle.std.proofs.Common.{◌∙◌, ap, set, get_or, None, arith}
use Rattle.std.proofs.lemmas.List.{get_or_default}
use Rattle.std.proofs.lemmas.List.Edits.{map_over_more}
use Rattle.round_core.specs.Rounds.{unclaimed}
use Rattle.round_core.specs.Steps.{handed_over}
use Rattle.round_core.proofs.round.hand_over.Goals as goal

pub loop-length-preserved : goal.loop-length-preserved
loop-length-preserved c =
    let xs = c.loop-length.lengths in
    let i = c.loop-length.length-index in
    let below = c.loop-length-test.true in
    let long = c.loop-length.auto.lengths in
    ap (set xs i) c.handed_over.ensures
    ∙ map_over_more (handed_over c.args.from c.args.worker) c.args.lengths.now xs i (get_or xs i (unclaimed None))
    below c.loop-length.invariant
    (get_or_default xs i (unclaimed None) (get_or xs i (unclaimed None)) (omega (arith, below, long)))
