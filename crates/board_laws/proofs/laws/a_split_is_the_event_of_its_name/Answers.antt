use Rattle.board_laws.proofs.Splits.{split_event}
use Rattle.board_laws.proofs.laws.a_split_is_the_event_of_its_name.Goals as goal

pub returns : goal.returns
returns c = split_event
