use Rattle.piece_laws.proofs.Pieces.{way_has_piece}
use Rattle.piece_laws.proofs.a_way_has_a_piece.Goals as goal

pub returns : goal.returns
returns c = way_has_piece
