use Rattle.run_laws.proofs.TrueOutcomes.{outcome_holds}
use Rattle.run_laws.proofs.an_outcome_holds.Goals as goal

pub returns : goal.returns
returns c = outcome_holds
