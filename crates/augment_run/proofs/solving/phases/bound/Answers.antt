use Rattle.std.proofs.Common.{◌∙◌, sym, subst}
use Rattle.lattice_theory.specs.Matrices.{Matrix}
use Rattle.lattice_theory.specs.Lattices.{IsSlackBasis}
use Rattle.run_theory.specs.Links.{complexity}
use Rattle.augment_run.proofs.PlanLaws.{links_high}
use Rattle.augment_run.proofs.solving.phases.bound.Goals as goal

pub complexity-requires-clause-basis : goal.complexity-requires-clause-basis
complexity-requires-clause-basis c =
    let is = c.requires.1 in
    subst (λ (m : Matrix). IsSlackBasis m c.args.plan.now.basis.elements) (sym is.links) is.stage.basis.slack

pub complexity-requires-clause-rows : goal.complexity-requires-clause-rows
complexity-requires-clause-rows c =
    c.relations.ensures.size
    ∙ sym (links_high c.args.program.now c.args.plan.now.bricks.elements c.args.plan.now.links c.requires.1.links)

pub returns-clause-bound : goal.returns-clause-bound
returns-clause-bound c =
    let plan = c.args.plan.now in
    c.complexity.ensures.complexity
    ∙ (λ i. complexity c.args.phase (c.relations.ensures.relations i) (c.requires.1.links i) plan.basis.elements)
