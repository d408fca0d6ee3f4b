use Rattle.outcome_laws.proofs.OneLimit.{limit_unique}
use Rattle.outcome_laws.proofs.one_limit.Goals as goal

pub returns : goal.returns
returns c = limit_unique
