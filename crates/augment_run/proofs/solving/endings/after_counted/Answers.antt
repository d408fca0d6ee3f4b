use Rattle.std.proofs.Common.{arith}
use Rattle.fold_program.proofs.PointLaws.{shape_of}
use Rattle.phase_one.specs.Started.{lists}
use Rattle.augment_run.proofs.SolveLaws.{met_after}
use Rattle.augment_run.proofs.solving.endings.after_counted.Goals as goal

pub judge-residual-requires : goal.judge-residual-requires
judge-residual-requires g c =
    shape_of c.args.program.now c.args.last.end.point c.n.ensures.program c.requires.missed.ended.start.within

pub closed-requires-clause-met : goal.closed-requires-clause-met
closed-requires-clause-met g c = λ _ _.
    met_after c.args.program.now c.n.ensures.program c.args.plan.now
    (lists c.args.traces.items) c.args.last c.requires.missed
    (omega (arith, c.judge-residual.ensures.miss))
