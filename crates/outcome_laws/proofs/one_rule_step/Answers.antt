use Rattle.outcome_laws.proofs.Runs.{best_unique}
use Rattle.outcome_laws.proofs.one_rule_step.Goals as goal

pub returns : goal.returns
returns c = best_unique
