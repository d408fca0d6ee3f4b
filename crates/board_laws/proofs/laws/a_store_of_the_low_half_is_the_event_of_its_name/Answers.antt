use Rattle.board_laws.proofs.Stores.{store_low_event}
use Rattle.board_laws.proofs.laws.a_store_of_the_low_half_is_the_event_of_its_name.Goals as goal

pub returns : goal.returns
returns c = store_low_event
