use Rattle.board_laws.proofs.Loads.{look_event}
use Rattle.board_laws.proofs.laws.a_look_is_the_event_load_best.Goals as goal

pub returns : goal.returns
returns c = look_event
