use Rattle.outcome_laws.proofs.OneLimit.{within_excludes}
use Rattle.outcome_laws.proofs.an_outcome_within_its_limits_passes_none.Goals as goal

pub returns : goal.returns
returns c = λ p caps o f is within. within_excludes p caps o is within f
