use Rattle.gain_laws.proofs.AllGains.{all_gains_are}
use Rattle.round_workers.proofs.rounds.round.Goals as goal

pub round_in-requires-clause-gains : goal.round_in-requires-clause-gains
round_in-requires-clause-gains g c = λ _ _. all_gains_are c.args.task.now.fold.now c.args.task.now.point.now
