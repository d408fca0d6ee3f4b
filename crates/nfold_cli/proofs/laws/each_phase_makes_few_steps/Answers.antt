use Rattle.nfold_cli.proofs.StepCountLaws.{outcome_told}
use Rattle.nfold_cli.proofs.laws.each_phase_makes_few_steps.Goals as goal

pub returns : goal.returns
returns c p o program is = outcome_told p program o is
