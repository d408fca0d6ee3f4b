use Rattle.rule_laws.proofs.BestUpTo.{found_gain}
use Rattle.rule_laws.proofs.the_best_step_has_the_gain_of_its_length.Goals as goal

pub returns : goal.returns
returns c = found_gain
