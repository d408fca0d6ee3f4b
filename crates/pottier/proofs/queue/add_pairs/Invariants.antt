use Rattle.std.specs.BinaryHeap.{heap_items}
use Rattle.pottier.specs.Queues.{IsPairedWith}
use Rattle.pottier.proofs.queue.add_pairs.Given as goal

abbrev pub invariant-loop-first : goal.invariant-loop-first
invariant-loop-first l = IsPairedWith l.at l.members l.second l.first (heap_items l.initial.pairs) (heap_items l.pairs)
