use Rattle.std.proofs.Common.{◌≡◌, ◌+◌, ◌-◌, ◌≤◌, length}
use Rattle.round_workers.specs.Workers.{IsSplitting}
use Rattle.round_workers.proofs.teams.team.Given as goal

abbrev pub invariant-loop-made : goal.invariant-loop-made
invariant-loop-made g l =
    IsSplitting l.task.fold.now l.task.point.now l.board l.opening l.all.items × (length l.all.items + 1 ≡ l.made)
    × (l.made ≤ l.workers) × (l.workers ≡ l.fn.workers)

abbrev pub decreases-loop-made : goal.decreases-loop-made
decreases-loop-made g l = l.workers - l.made
