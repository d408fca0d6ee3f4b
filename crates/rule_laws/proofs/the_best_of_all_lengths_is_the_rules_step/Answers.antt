use Rattle.rule_laws.proofs.BestUpTo.{best_all}
use Rattle.rule_laws.proofs.the_best_of_all_lengths_is_the_rules_step.Goals as goal

pub returns : goal.returns
returns c = best_all
