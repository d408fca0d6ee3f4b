use Rattle.board_laws.proofs.Joins.{join_event}
use Rattle.board_laws.proofs.laws.a_join_is_the_event_of_its_name.Goals as goal

pub returns : goal.returns
returns c = join_event
