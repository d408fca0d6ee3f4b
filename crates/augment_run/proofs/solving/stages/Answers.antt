use Rattle.std.proofs.Common.{sym, subst}
use Rattle.pottier.specs.Bases.{BasisValue}
use Rattle.run_theory.specs.Outcomes.{AllSettle}
use Rattle.phase_one.specs.Started.{lists, IsStarted}
use Rattle.augment_run.proofs.solving.stages.Goals as goal

pub make_plan-requires-clause-settled : goal.make_plan-requires-clause-settled
make_plan-requires-clause-settled g c =
    let started =
    subst (IsStarted c.args.program.now c.in_ok-bricks.bricks.elements) c.in-Ready.is c.in_ok-started.ensures in (
      c.in-Ready.point,
      record { within = c.in_ok-bricks.ensures.basis; traces = lists c.in-Ready.traces.items; settled = started.0 },
    )

pub settled-requires-clause-all : goal.settled-requires-clause-all
settled-requires-clause-all g c = λ _ _.
    let p = c.args.program.now in
    let x = c.in-Ready.point in
    let traces = lists c.in-Ready.traces.items in
    let started = subst (IsStarted p c.in_ok-bricks.bricks.elements) c.in-Ready.is c.in_ok-started.ensures in
    record {
      tables =
          c.in_ok-plan-in-Ready.ensures.plan x
          (record { within = c.in_ok-bricks.ensures.basis; traces = traces; settled = started.0 });
      all =
          subst (λ (b : BasisValue). AllSettle p b.elements p.bricks traces x)
          (sym c.in_ok-plan-in-Ready.ensures.bricks) started.0;
      start = started.1;
      shape = started.2;
    }
