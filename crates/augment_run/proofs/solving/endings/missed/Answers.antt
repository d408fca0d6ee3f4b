use Rattle.std.proofs.Common.{refl}
use Rattle.phase_one.specs.Started.{lists}
use Rattle.augment_run.proofs.SolveLaws.{solved_missed}
use Rattle.augment_run.proofs.solving.endings.missed.Goals as goal

pub certificate_on_all-requires-clause-plan : goal.certificate_on_all-requires-clause-plan
certificate_on_all-requires-clause-plan c = (c.requires.missed.settled, c.requires.missed.stage.tables)

pub certificate_on_all-requires-clause-ended : goal.certificate_on_all-requires-clause-ended
certificate_on_all-requires-clause-ended c = (c.requires.missed.settled, c.requires.missed.ended)

pub returns : goal.returns
returns c =
    solved_missed c.args.program.now c.n.ensures.program c.args.plan.now
    (lists c.args.traces.items) c.args.last c.args.residual _ c.requires.missed
    c.requires.residual c.requires.some c.in_ok-certificate.ensures refl
