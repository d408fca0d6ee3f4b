use Rattle.rule_laws.proofs.BestUpTo.{best_takes}
use Rattle.rule_laws.proofs.a_step_that_is_not_beaten_is_the_best.Goals as goal

pub returns : goal.returns
returns c = best_takes
