use Rattle.std.proofs.Common.{None, arith}
use Rattle.fold_theory.specs.declared.Verdict.TheVariants.{InfeasibleBrick}
use Rattle.phase_one.specs.Started.{lists}
use Rattle.augment_run.proofs.SolveLaws.{solved_stuck}
use Rattle.augment_run.proofs.solving.endings.stuck.Goals as goal

pub certificate_on_brick-requires-clause-from : goal.certificate_on_brick-requires-clause-from
certificate_on_brick-requires-clause-from c = omega (arith, c.requires.first.numbered)

pub returns : goal.returns
returns c = λ caps within.
    let traces = lists c.args.traces.items in
    solved_stuck c.args.program.now caps c.args.bricks.now.elements c.args.brick c.args.residual c.args.point.now traces
    _
    c.n.ensures.program within c.requires.first (λ i. record {
      verdict = InfeasibleBrick c.args.brick c.args.residual;
      point = None;
      traces = traces;
      counted = None;
      closed = None;
      certificate = c.in_ok-certificate.ensures i;
    })
