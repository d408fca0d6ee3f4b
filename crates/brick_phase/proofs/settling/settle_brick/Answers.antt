use Rattle.std.proofs.Common.{◌≡◌, arith, subst}
use Rattle.brick_phase.specs.Settled.{IsBrickEnd}
use Rattle.brick_phase.proofs.SettleLaws.{place_after, residual_after, leads_after, brick_end}
use Rattle.brick_phase.proofs.settling.settle_brick.Goals as goal

pub loop-trace-preserved : goal.loop-trace-preserved
loop-trace-preserved c = record {
  place = place_after c.args.program.now c.args.basis.now.elements c.args.i c.in_ok-moves.moves c.in_ok-moves.ensures
      c.loop-trace.at c.in-Some.offer c.in_ok-offer.field-0
      c.in_ok-offer.ensures c.in-Some.is;
  leads = leads_after c.args.program.now c.args.basis.now.elements c.args.i c.in_ok-moves.moves c.in_ok-moves.ensures
      c.loop-trace.at c.in-Some.offer c.in_ok-offer.field-0
      c.loop-trace.trace.items c.push.new.self.items c.in_ok-offer.ensures c.in-Some.is c.in_ok-push.ensures.items
      c.loop-trace.invariant.leads;
}

pub loop-trace-smaller : goal.loop-trace-smaller
loop-trace-smaller c =
    residual_after c.args.program.now c.args.basis.now.elements c.args.i c.in_ok-moves.moves c.in_ok-moves.ensures
    c.loop-trace.at c.in-Some.offer c.in_ok-offer.field-0 _
    c.in_ok-at.ensures c.in_ok-offer.ensures c.in-Some.is c.loop-trace.invariant.place

pub returns-then-residual-eq0 : goal.returns-then-residual-eq0
returns-then-residual-eq0 c =
    let none : c.loop-trace.at.residual ≡ 0 = omega arith in
    subst (IsBrickEnd c.args.program.now c.args.basis.now.elements c.args.i c.loop-trace.trace.items
    c.loop-trace.at.point.items) none
    (brick_end c.args.program.now c.args.basis.now.elements c.args.i c.in_ok-moves.moves c.in_ok-moves.ensures
    c.loop-trace.at c.in_ok-offer.field-0 c.loop-trace.trace.items _
    c.in_ok-at.ensures c.in_ok-offer.ensures c.in_default.is c.loop-trace.invariant.place c.loop-trace.invariant.leads)

pub returns : goal.returns
returns c = (
  brick_end c.args.program.now c.args.basis.now.elements c.args.i c.in_ok-moves.moves c.in_ok-moves.ensures
      c.loop-trace.at c.in_ok-offer.field-0 c.loop-trace.trace.items _
      c.in_ok-at.ensures c.in_ok-offer.ensures c.in_default.is c.loop-trace.invariant.place
      c.loop-trace.invariant.leads,
  omega arith,
)
