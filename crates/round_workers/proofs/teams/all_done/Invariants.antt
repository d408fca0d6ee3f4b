use Rattle.std.proofs.Common.{◌≡◌, ◌++◌, map, Ok}
use Rattle.round_workers.proofs.teams.all_done.Given as goal

abbrev pub invariant-loop-worker : goal.invariant-loop-worker
invariant-loop-worker g l = map Ok l.workers.items ++ l.worker-iterator.rest.items ≡ l.fn.done.items
