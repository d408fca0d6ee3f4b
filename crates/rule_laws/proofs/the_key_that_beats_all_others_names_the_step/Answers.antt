use Rattle.rule_laws.proofs.BestUpTo.{beating_step}
use Rattle.rule_laws.proofs.the_key_that_beats_all_others_names_the_step.Goals as goal

pub returns : goal.returns
returns c = beating_step
