use Rattle.rule_laws.proofs.Gains.{no_gain}
use Rattle.rule_laws.proofs.no_gain_is_no_step.Goals as goal

pub returns : goal.returns
returns c = no_gain
