use Rattle.round_core.proofs.Gains.{step_keeps_gains}
use Rattle.round_core.proofs.laws.an_event_keeps_the_gains.Goals as goal

pub returns : goal.returns
returns c = step_keeps_gains
