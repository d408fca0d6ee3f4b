use Rattle.std.proofs.Common.{sym, subst}
use Rattle.lattice_theory.specs.Matrices.{Matrix}
use Rattle.lattice_theory.specs.SignedSums.{AreSums, ExceedsSumsOf}
use Rattle.run_theory.specs.Links.{generators}
use Rattle.brick_sums.specs.Generators.{AreGenerators}
use Rattle.augment_run.proofs.PlanLaws.{sums_limit}
use Rattle.augment_run.proofs.solving.phases.phase_sums.Goals as goal

pub sums-requires-clause-distinct : goal.sums-requires-clause-distinct
sums-requires-clause-distinct c =
    let is = c.requires.begun.1.tables in
    subst (λ (m : Matrix). AreGenerators m.rows) (sym is.kernel)
    (c.kernel_generators.ensures c.args.program.now.brick c.args.plan.now.bricks.elements is.stage.bricks.within.slack)

pub returns-in-Ok-clause-sums : goal.returns-in-Ok-clause-sums
returns-in-Ok-clause-sums c =
    let is = c.requires.begun.1.tables in
    record {
      all =
          subst (λ n. AreSums c.args.program.now.brick.cols
          (generators c.args.program.now c.args.plan.now.bricks.elements) n c.in-Ok.sums) c.requires.bound
          (subst (λ (m : Matrix). AreSums m.cols m.rows c.args.bound c.in-Ok.sums) is.kernel c.in-Ok.ensures.sums);
      few = c.in-Ok.ensures.few;
    }

pub returns-in-Err-Limit-clause-refused : goal.returns-in-Err-Limit-clause-refused
returns-in-Err-Limit-clause-refused c =
    let is = c.requires.begun.1.tables in
    let plan = c.args.plan.now in
    let exceeds = rw c.in-Err-Limit.field-0-is at c.in-Err-Limit.ensures.refused in
    sums_limit c.args.program.now c.args.phase plan c.requires.begun.0 c.requires.begun.1
    (subst (λ n. ExceedsSumsOf c.args.program.now.brick.cols (generators c.args.program.now plan.bricks.elements) n
    plan.settings.max_sums) c.requires.bound
    (subst (λ (m : Matrix). ExceedsSumsOf m.cols m.rows c.args.bound plan.settings.max_sums) is.kernel exceeds))
