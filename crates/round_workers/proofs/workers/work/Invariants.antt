use Rattle.std.proofs.Common.{◌≡◌, ◌-◌, length}
use Rattle.round_core.specs.declared.parts.Stand.TheVariants.{Working}
use Rattle.round_workers.specs.Workers.{Keeps, KnowsBest, ceiling}
use Rattle.round_workers.proofs.workers.work.Given as goal

abbrev pub invariant-loop-k : goal.invariant-loop-k
invariant-loop-k g l =
    (l.worker.held.table ≡ l.fn.worker.held.table) × (l.worker.held.view.stand ≡ Working)
    × Keeps l.task.fold.now l.task.point.now l.worker
    × (l.worker.held.view.number ≡ l.fn.worker.held.view.number)
    × (l.worker.held.view.joined ≡ l.fn.worker.held.view.joined)
    × (l.worker.held.view.made ≡ l.fn.worker.held.view.made)
    × KnowsBest l.task.fold.now l.task.point.now l.worker

-- the greatest length that the worker owns comes nearer to the last one
abbrev pub decreases-loop-k : goal.decreases-loop-k
decreases-loop-k g l = length g.N.Gains.gains - ceiling l.worker.held.view.owned
