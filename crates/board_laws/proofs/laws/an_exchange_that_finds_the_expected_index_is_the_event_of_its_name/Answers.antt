use Rattle.board_laws.proofs.Exchanges.{offer_event}
use Rattle.board_laws.proofs.laws.an_exchange_that_finds_the_expected_index_is_the_event_of_its_name.Goals as goal

pub returns : goal.returns
returns c = offer_event
