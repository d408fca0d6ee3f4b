use Rattle.round_core.proofs.EachEvent.{step_keeps}
use Rattle.round_core.proofs.laws.an_event_keeps_a_round_sound.Goals as goal

pub returns : goal.returns
returns c = step_keeps
