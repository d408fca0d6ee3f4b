use Rattle.outcome_laws.proofs.OneOutcome.{outcome_unique}
use Rattle.outcome_laws.proofs.one_outcome.Goals as goal

pub returns : goal.returns
returns c = λ p o q program first second. outcome_unique p o q first second
