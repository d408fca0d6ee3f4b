use Rattle.piece_laws.proofs.Pieces.{unit_best}
use Rattle.piece_laws.proofs.a_point_that_no_unit_step_betters_is_best.Goals as goal

pub returns : goal.returns
returns c = unit_best
