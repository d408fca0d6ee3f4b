use Rattle.yes_laws.proofs.Potentials.{no_unit_step_gains}
use Rattle.yes_laws.proofs.potentials_that_hold_exclude_a_better_unit_step.Goals as goal

pub returns : goal.returns
returns c = no_unit_step_gains
