use Rattle.outcome_laws.proofs.Runs.{brick_run_unique}
use Rattle.outcome_laws.proofs.one_brick_run.Goals as goal

pub returns : goal.returns
returns c = brick_run_unique
