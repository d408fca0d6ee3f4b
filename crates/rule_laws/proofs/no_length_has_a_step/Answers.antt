use Rattle.rule_laws.proofs.BestUpTo.{best_none}
use Rattle.rule_laws.proofs.no_length_has_a_step.Goals as goal

pub returns : goal.returns
returns c = best_none
