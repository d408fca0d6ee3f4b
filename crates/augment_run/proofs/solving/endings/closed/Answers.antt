use Rattle.phase_one.specs.Started.{lists}
use Rattle.augment_run.proofs.SolveLaws.{begun_closed}
use Rattle.augment_run.proofs.solving.endings.closed.Goals as goal

pub run_phase-requires-clause-begun : goal.run_phase-requires-clause-begun
run_phase-requires-clause-begun g c = λ _ _.
    let met = c.requires.met in (
      met.settled,
      begun_closed c.args.program.now c.args.plan.now (lists c.args.met.traces.items) c.args.met.counted
          c.args.met.point met,
    )

pub run_phase-requires-clause-start : goal.run_phase-requires-clause-start
run_phase-requires-clause-start g c = λ _ _. c.requires.met.start

pub optimal-requires : goal.optimal-requires
optimal-requires g c = record { point = c.args.met.point; met = c.requires.met; ended = c.in_ok-last.ensures.ended }
