use Rattle.std.proofs.Common.{sym, subst}
use Rattle.nfold_cli.specs.SolvedTexts.{AreShort}
use Rattle.nfold_cli.proofs.TraceLaws.{of_each}
use Rattle.nfold_cli.proofs.solved_texts.with_brick_runs.Goals as goal

pub with_brick_run-requires : goal.with_brick_run-requires
with_brick_run-requires c =
    subst AreShort (sym c.deref.ensures.value)
    (of_each (λ t. t.items) AreShort c.args.runs.now c.loop-place.place c.index-runs-place.result c.requires
    c.loop-place-test.true c.index-runs-place.is)
