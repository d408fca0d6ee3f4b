use Rattle.board_laws.proofs.Ends.{board_first}
use Rattle.board_laws.proofs.laws.a_board_begins_with_its_opening_seat.Goals as goal

pub returns : goal.returns
returns c = board_first
