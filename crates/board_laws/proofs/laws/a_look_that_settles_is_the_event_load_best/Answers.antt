use Rattle.board_laws.proofs.Loads.{settle_event}
use Rattle.board_laws.proofs.laws.a_look_that_settles_is_the_event_load_best.Goals as goal

pub returns : goal.returns
returns c = settle_event
