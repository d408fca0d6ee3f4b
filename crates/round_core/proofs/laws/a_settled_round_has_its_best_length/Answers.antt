use Rattle.round_core.proofs.Ends.{reached}
use Rattle.round_core.proofs.laws.a_settled_round_has_its_best_length.Goals as goal

pub returns : goal.returns
returns c = reached
