use Rattle.gain_laws.proofs.AllGains.{all_gains}
use Rattle.round_workers.proofs.rounds.round.Given as goal

-- the gains that the round has, before any of them is known
abbrev pub ghosts-round_in : goal.ghosts-round_in
ghosts-round_in g a = record { gains = all_gains a.task.now.fold.now a.task.now.point.now }
