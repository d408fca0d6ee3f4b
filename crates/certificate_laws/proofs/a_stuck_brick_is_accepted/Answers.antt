use Rattle.certificate_laws.proofs.Accepted.{stuck_is_accepted}
use Rattle.certificate_laws.proofs.a_stuck_brick_is_accepted.Goals as goal

pub returns : goal.returns
returns c = stuck_is_accepted
