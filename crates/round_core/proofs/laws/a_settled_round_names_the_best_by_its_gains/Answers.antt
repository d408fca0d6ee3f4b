use Rattle.round_core.proofs.Gains.{reached_by_gains}
use Rattle.round_core.proofs.laws.a_settled_round_names_the_best_by_its_gains.Goals as goal

pub returns : goal.returns
returns c = reached_by_gains
