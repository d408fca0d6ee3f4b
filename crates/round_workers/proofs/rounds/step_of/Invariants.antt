use Rattle.std.proofs.Common.{◌≡◌, length}
use Rattle.round_workers.proofs.Finding.{IsPast}
use Rattle.round_workers.proofs.rounds.step_of.Given as goal

abbrev pub invariant-loop-step : goal.invariant-loop-step
invariant-loop-step l = IsPast l.k l.fn.steps.items l.steps.items × (l.k ≡ l.fn.k)

abbrev pub decreases-loop-step : goal.decreases-loop-step
decreases-loop-step l = length l.steps.items
