use Rattle.std.proofs.Common.{length}
use Rattle.round_workers.specs.Workers.{IsTaking}
use Rattle.round_workers.proofs.teams.joined.Given as goal

abbrev pub invariant-loop-other : goal.invariant-loop-other
invariant-loop-other g l = IsTaking l.task.fold.now l.task.point.now l.board l.opening l.others.items

abbrev pub decreases-loop-other : goal.decreases-loop-other
decreases-loop-other g l = length l.others.items
