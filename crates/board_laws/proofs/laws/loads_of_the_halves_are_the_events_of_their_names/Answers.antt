use Rattle.board_laws.proofs.Loads.{half_events}
use Rattle.board_laws.proofs.laws.loads_of_the_halves_are_the_events_of_their_names.Goals as goal

pub returns : goal.returns
returns c = half_events
