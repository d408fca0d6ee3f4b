use Rattle.piece_laws.proofs.Residuals.{brick_residual_parts}
use Rattle.piece_laws.proofs.two_parts_of_a_difference_miss_no_more.Goals as goal

pub returns : goal.returns
returns c = brick_residual_parts
