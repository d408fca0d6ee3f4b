use Rattle.yes_laws.proofs.Accepted.{yes_holds}
use Rattle.yes_laws.proofs.a_yes_holds.Goals as goal

pub returns : goal.returns
returns c = yes_holds
