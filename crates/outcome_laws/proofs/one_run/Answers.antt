use Rattle.outcome_laws.proofs.Runs.{run_unique}
use Rattle.outcome_laws.proofs.one_run.Goals as goal

pub returns : goal.returns
returns c = run_unique
