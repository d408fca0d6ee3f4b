use Rattle.yes_laws.proofs.BrickMisses.{accepted_holds}
use Rattle.yes_laws.proofs.a_yes_on_a_brick_holds.Goals as goal

pub returns : goal.returns
returns c = accepted_holds
