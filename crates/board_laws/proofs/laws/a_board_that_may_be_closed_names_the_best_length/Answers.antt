use Rattle.board_laws.proofs.Ends.{board_ends}
use Rattle.board_laws.proofs.laws.a_board_that_may_be_closed_names_the_best_length.Goals as goal

pub returns : goal.returns
returns c = board_ends
