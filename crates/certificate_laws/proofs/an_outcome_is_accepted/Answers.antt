use Rattle.certificate_laws.proofs.Accepted.{outcome_is_accepted}
use Rattle.certificate_laws.proofs.an_outcome_is_accepted.Goals as goal

pub returns : goal.returns
returns c = outcome_is_accepted
