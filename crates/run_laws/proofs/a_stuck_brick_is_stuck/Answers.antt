use Rattle.run_laws.proofs.Stuck.{stuck_holds}
use Rattle.run_laws.proofs.a_stuck_brick_is_stuck.Goals as goal

pub returns : goal.returns
returns c = stuck_holds
