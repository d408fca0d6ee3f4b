use Rattle.rule_laws.proofs.BestUpTo.{best_keeps}
use Rattle.rule_laws.proofs.a_beaten_length_keeps_the_best_step.Goals as goal

pub returns : goal.returns
returns c = best_keeps
