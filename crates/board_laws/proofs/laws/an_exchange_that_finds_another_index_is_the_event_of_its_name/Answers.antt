use Rattle.board_laws.proofs.Exchanges.{miss_event}
use Rattle.board_laws.proofs.laws.an_exchange_that_finds_another_index_is_the_event_of_its_name.Goals as goal

pub returns : goal.returns
returns c = miss_event
