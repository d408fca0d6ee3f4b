use Rattle.piece_laws.proofs.Starts.{parts_cost_no_more}
use Rattle.piece_laws.proofs.two_parts_of_a_way_cost_no_more.Goals as goal

pub returns : goal.returns
returns c = parts_cost_no_more
