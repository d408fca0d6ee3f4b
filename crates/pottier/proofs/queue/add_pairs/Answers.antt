use Rattle.std.proofs.Common.{◌+◌, ◌<◌, ◌∙◌, [], refl, sym, subst, length, arith}
use Rattle.std.proofs.lemmas.Option.{get_or_from_slice_get}
use Rattle.std.specs.BinaryHeap.{heap_items}
use Rattle.pottier.specs.Partners.{pair_counts}
use Rattle.pottier.specs.Queues.{IsPairedWith}
use Rattle.pottier.proofs.QueueLaws.{pair_is, with_left, with_more}
use Rattle.pottier.proofs.queue.add_pairs.Goals as goal
use Rattle.pottier.proofs.queue.add_pairs.Goals.{then-counts+in_ok-push, else-counts}

pub loop-first-preserved : goal.loop-first-preserved
loop-first-preserved c =
    let at = c.args.at in
    let vs = c.args.members.now in
    let i = c.loop-first.first in
    let j = c.args.second in
    let low : i < length vs = omega (arith, c.loop-first-test.true, c.requires.second) in
    let first = get_or_from_slice_get vs i c.get-p.result.now [] c.get-p.ensures.member in
    let second = get_or_from_slice_get vs j c.get-q.result.now [] c.get-q.ensures.member in
    let before = heap_items c.args.pairs.now in
    elim c.if-counts.branch [
      | then-counts+in_ok-push w ↦
          let pair = pair_is at vs i j w.pair_norm.result c.get-p.result.now c.get-q.result.now low c.requires.second
          first second (sym c.counts.ensures ∙ w.if-counts.true)
          (w.pair_norm.ensures.norm (sym c.counts.ensures ∙ w.if-counts.true)) in
          subst (λ h. IsPairedWith at vs j (i + 1) before (heap_items h)) (sym w.pairs-is)
          (with_more at vs j i before (heap_items c.loop-first.pairs) (heap_items w.push.new.self) _
          c.loop-first.invariant w.in_ok-push.ensures.permutation w.in_ok-push.ensures.heap_order pair refl refl)
      | else-counts w ↦
          subst (λ h. IsPairedWith at vs j (i + 1) before (heap_items h)) (sym w.pairs-is)
          (with_left at vs j i before (heap_items c.loop-first.pairs) c.loop-first.invariant
          ((λ k. pair_counts at (first k) (second k)) ∙ sym c.counts.ensures ∙ w.if-counts.false))
    ]
