use Rattle.board_laws.proofs.Reached.{board_after}
use Rattle.board_laws.proofs.laws.a_step_that_is_an_event_keeps_a_board.Goals as goal

pub returns : goal.returns
returns c = board_after
