use Rattle.rule_laws.proofs.Gains.{best_gain}
use Rattle.rule_laws.proofs.the_best_length_has_the_rules_step.Goals as goal

pub returns : goal.returns
returns c = λ f x gains k s are. best_gain f x gains are k s
