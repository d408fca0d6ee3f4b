use Rattle.board_laws.proofs.Stores.{store_high_event}
use Rattle.board_laws.proofs.laws.a_store_of_the_high_half_is_the_event_of_its_name.Goals as goal

pub returns : goal.returns
returns c = store_high_event
