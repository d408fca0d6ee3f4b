use Rattle.std.proofs.Common.{arith}
use Rattle.std.specs.BinaryHeap.{heap_items}
use Rattle.pottier.proofs.QueueLaws.{up_more}
use Rattle.pottier.proofs.queue.pair_up.Goals as goal

pub loop-second-preserved : goal.loop-second-preserved
loop-second-preserved c =
    up_more c.args.at c.args.members.now c.args.from c.loop-second.second (heap_items c.args.pairs.now)
    (heap_items c.loop-second.pairs) (heap_items c.add_pairs.new.pairs) c.loop-second.auto.second
    (omega (arith, c.loop-second-test.true)) c.loop-second.invariant c.in_ok-add_pairs.ensures
