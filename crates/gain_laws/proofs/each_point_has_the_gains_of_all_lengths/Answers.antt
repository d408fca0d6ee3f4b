use Rattle.gain_laws.proofs.AllGains.{gains_exist}
use Rattle.gain_laws.proofs.each_point_has_the_gains_of_all_lengths.Goals as goal

pub returns : goal.returns
returns c = gains_exist
