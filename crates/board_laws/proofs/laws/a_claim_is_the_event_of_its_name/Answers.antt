use Rattle.board_laws.proofs.Claims.{claim_event}
use Rattle.board_laws.proofs.laws.a_claim_is_the_event_of_its_name.Goals as goal

pub returns : goal.returns
returns c = claim_event
