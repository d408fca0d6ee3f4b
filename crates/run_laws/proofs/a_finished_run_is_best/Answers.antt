use Rattle.run_laws.proofs.Best.{finished_is_best}
use Rattle.run_laws.proofs.a_finished_run_is_best.Goals as goal

pub returns : goal.returns
returns c = finished_is_best
