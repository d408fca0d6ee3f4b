use Rattle.board_laws.proofs.Reached.{board_sound}
use Rattle.board_laws.proofs.laws.a_board_shows_a_sound_round.Goals as goal

pub returns : goal.returns
returns c = board_sound
