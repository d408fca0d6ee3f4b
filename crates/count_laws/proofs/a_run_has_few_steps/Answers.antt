use Rattle.count_laws.proofs.FewSteps.{few_steps, run_gains}
use Rattle.count_laws.proofs.a_run_has_few_steps.Goals as goal

pub returns-clause-few : goal.returns-clause-few
returns-clause-few c = few_steps

pub returns-clause-gained : goal.returns-clause-gained
returns-clause-gained c p phase zs x last moves run = run_gains p phase zs moves x last run
