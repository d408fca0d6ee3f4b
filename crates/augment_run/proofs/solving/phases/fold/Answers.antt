use Rattle.augment_run.proofs.CertifyLaws.{wide, images}
use Rattle.augment_run.proofs.PlanLaws.{table_limit}
use Rattle.augment_run.proofs.solving.phases.fold.Goals as goal

pub new-requires-clause-widths : goal.new-requires-clause-widths
new-requires-clause-widths c =
    wide c.args.program.now c.args.plan.now c.requires.begun.0 c.requires.begun.1.tables c.args.phase c.args.sums.now
    c.requires.sums

pub new-requires-clause-images : goal.new-requires-clause-images
new-requires-clause-images c =
    images c.args.program.now c.args.plan.now c.requires.begun.0 c.requires.begun.1.tables c.args.phase c.args.sums.now
    c.requires.sums

pub returns-in-None-clause-refused : goal.returns-in-None-clause-refused
returns-in-None-clause-refused c =
    table_limit c.args.program.now c.args.phase c.args.plan.now c.requires.begun.0 c.args.sums.now c.requires.begun.1
    c.requires.sums c.in-None.ensures
