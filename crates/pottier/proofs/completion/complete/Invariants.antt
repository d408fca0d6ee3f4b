use Rattle.std.proofs.Common.{◌+◌, ◌-◌, ◌*◌, length}
use Rattle.std.specs.BinaryHeap.{heap_items}
use Rattle.pottier.specs.Ranks.{AreRanks}
use Rattle.pottier.specs.Queues.{AreQueued}
use Rattle.pottier.proofs.completion.complete.Given as goal

abbrev pub invariant-loop-pair : goal.invariant-loop-pair
invariant-loop-pair l = record {
  queued : AreQueued l.at l.limit l.initial.members (heap_items l.pairs) l.members;
  ranks : AreRanks l.at l.members l.ranks.items;
}

abbrev pub decreases-loop-pair : goal.decreases-loop-pair
decreases-loop-pair l = (l.limit - length l.members) * (l.limit + 1) + length (heap_items l.pairs)
