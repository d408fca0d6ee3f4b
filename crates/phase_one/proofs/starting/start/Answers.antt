use Rattle.std.proofs.Common.{arith, ◌+◌, sym, subst, Option, IfSome}
use Rattle.fold_theory.specs.declared.Phase.TheVariants.{Counted}
use Rattle.fold_theory.specs.Programs.{Bricks}
use Rattle.run_theory.specs.Outcomes.{AllSettle}
use Rattle.run_theory.specs.Starts.{IsStart}
use Rattle.fold_program.specs.Points.{HasPointShape, IsPoint}
use Rattle.brick_phase.specs.Settled.{IsBrickEnd, IsSettled}
use Rattle.phase_one.specs.Started.{lists}
use Rattle.phase_one.proofs.StartLaws.{joined_more, joined_all}
use Rattle.phase_one.proofs.starting.start.Goals as goal

pub loop-at-preserved : goal.loop-at-preserved
loop-at-preserved c =
    let end : IsBrickEnd c.args.program.now c.args.basis.now.elements
    (c.loop-at.at + 1) c.in-Feasible.trace.items c.in-Feasible.point.items 0 =
    subst (IsSettled c.args.program.now c.args.basis.now.elements (c.loop-at.at + 1)) c.in-Feasible.is
    c.in_ok-point.ensures in
    let more = joined_more c.args.program.now c.args.basis.now.elements c.loop-at.at c.loop-at.traces.items
    c.in-Feasible.trace
    c.loop-at.entries.items c.in-Feasible.point.items c.n-at-end.ensures.program end c.loop-at.invariant in
    rw (
      c.in_ok-push-in-Feasible.ensures.items,
      c.in_ok-extend_from_slice-in-Feasible.ensures.items,
      c.deref.ensures.value,
    ) more

pub returns : goal.returns
returns c =
    let p = c.args.program.now in
    let basis = c.args.basis.now.elements in
    let all = joined_all p basis c.loop-at.at c.loop-at.traces.items c.loop-at.entries.items c.n-at-end.ensures.program
    (omega (arith, c.loop-at-test.false, c.n-at-end.ensures.bricks)) c.loop-at.invariant in
    let made : IsPoint p c.loop-at.entries.items c.unwrap-point.result =
    subst (λ (o : Option Bricks). IfSome o (IsPoint p c.loop-at.entries.items)) c.unwrap-point.ensures
    c.new.ensures.made in
    let shape : HasPointShape p c.unwrap-point.result =
    subst (λ (o : Option Bricks). IfSome o (HasPointShape p)) c.unwrap-point.ensures c.new.ensures.shape in (
      subst (AllSettle p basis p.bricks (lists c.loop-at.traces.items)) (sym made.value) all.settled,
      subst (IsStart p Counted) (sym made.value) all.start,
      shape,
    )
