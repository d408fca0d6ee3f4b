use Rattle.std.specs.BinaryHeap.{heap_items}
use Rattle.pottier.specs.Queues.{IsPairedUp}
use Rattle.pottier.proofs.queue.pair_up.Given as goal

abbrev pub invariant-loop-second : goal.invariant-loop-second
invariant-loop-second l = IsPairedUp l.at l.members l.from l.second (heap_items l.initial.pairs) (heap_items l.pairs)
