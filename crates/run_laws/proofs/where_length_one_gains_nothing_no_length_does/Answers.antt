use Rattle.run_laws.proofs.Lengths.{none_of_any_length}
use Rattle.run_laws.proofs.where_length_one_gains_nothing_no_length_does.Goals as goal

pub returns : goal.returns
returns c = none_of_any_length
