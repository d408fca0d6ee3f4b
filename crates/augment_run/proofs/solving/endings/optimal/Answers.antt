use Rattle.std.proofs.Common.{◌∙◌, Some, FitsSigned, rules}
use Rattle.std.specs.Int.{w128}
use Rattle.std.proofs.lemmas.Int.{to_z-of_z}
use Rattle.fold_theory.specs.declared.Verdict.TheVariants.{Optimal}
use Rattle.phase_one.specs.Started.{lists}
use Rattle.augment_run.proofs.SolveLaws.{solved_closed}
use Rattle.augment_run.proofs.solving.endings.optimal.Goals as goal

pub certificate_on_all-requires-clause-plan : goal.certificate_on_all-requires-clause-plan
certificate_on_all-requires-clause-plan c = (c.requires.met.settled, c.requires.met.stage.tables)

pub certificate_on_all-requires-clause-ended : goal.certificate_on_all-requires-clause-ended
certificate_on_all-requires-clause-ended c = (c.requires.point, c.requires.ended)

pub returns : goal.returns
returns c =
    let traces = lists c.args.traces.items in
    let last = c.args.last in
    let fits : FitsSigned w128 c.cost-cost.result = search rules in
    let cost = to_z-of_z w128 c.cost-cost.result fits ∙ c.cost-cost.ensures.cost in
    solved_closed c.args.program.now c.n.ensures.program c.args.plan.now traces c.args.counted last _ c.requires
    c.in_ok-certificate.ensures (λ i. record {
      verdict = Optimal (cost i);
      point = Some last.end.point;
      traces = traces;
      counted = c.args.counted;
      closed = Some last.end.made;
      certificate = c.in_ok-certificate.certificate;
    })
