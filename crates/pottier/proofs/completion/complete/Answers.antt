use Rattle.std.proofs.Common.{◌≡◌, ◌≤◌, ◌+◌, ◌∷◌, length, sym, subst, arith}
use Rattle.std.proofs.lemmas.List.Elements.{All-weaker}
use Rattle.lattice_theory.specs.Vectors.{Vector}
use Rattle.lattice_theory.specs.BasisLimits.{IsNarrow}
use Rattle.std.specs.BinaryHeap.{IsHeap, heap_items}
use Rattle.std.proofs.lemmas.List.Sorted.{length_permutation}
use Rattle.std.proofs.lemmas.Result.{err_from_is_err_and}
use Rattle.lattice_theory.specs.Matrices.{Matrix}
use Rattle.lattice_laws.proofs.SlackBases.{IsReducible}
use Rattle.lattice_laws.proofs.Completion.{CoversBelow}
use Rattle.pottier.specs.Stages.{AreFitting, IsStage}
use Rattle.pottier.specs.Queues.{pair_order, IsPairedUp}
use Rattle.pottier.proofs.StageLaws.{grows_length}
use Rattle.pottier.proofs.QueueLaws.{pair_due, first_fits, first_due, queue_started, queue_first, queue_more}
use Rattle.pottier.proofs.QueueLaws.{queue_ended, work_falls}
use Rattle.pottier.proofs.completion.complete.Goals as goal

pub loop-pair-init : goal.loop-pair-init
loop-pair-init c =
    let vs = c.args.members.now in
    let es = heap_items c.pair_up.new.pairs in
    let up = subst (λ hs. IsPairedUp c.args.at vs 0 (length vs) hs es) c.new-pairs.ensures.items
    c.in_ok-pair_up.ensures in
    record {
      queued = queue_started c.args.at c.args.limit vs es c.requires.fitting
          (subst (IsHeap pair_order) c.new-pairs.ensures.items c.new-pairs.ensures.heap_order) up;
      ranks = c.in_ok-ranks.ensures;
    }

pub all_ranks-requires : goal.all_ranks-requires
all_ranks-requires c =
    All-weaker (λ (v : Vector). (length v ≡ c.args.at + 1) × IsNarrow v) (λ (v : Vector). c.args.at ≤ length v)
    (λ v k. omega (arith, k.0)) c.args.members.now c.requires.fitting.members

pub add_sum-requires-clause-at : goal.add_sum-requires-clause-at
add_sum-requires-clause-at c =
    let is = c.in_ok-sum.ensures in
    let size = (first_fits c.args.at c.args.limit c.args.members.now (heap_items c.loop-pair.pairs)
    (heap_items c.pop.new.self) c.loop-pair.members c.in-Some.pair c.in_ok-sum.sum.items
    c.loop-pair.invariant.queued c.in-Some.ensures.permutation is).0 in
    omega (arith, size)

pub sum_of-requires-clause-members : goal.sum_of-requires-clause-members
sum_of-requires-clause-members c = c.loop-pair.invariant.queued.fitting.members

pub sum_of-requires-clause-pair : goal.sum_of-requires-clause-pair
sum_of-requires-clause-pair c =
    (queue_first c.args.at c.args.limit c.args.members.now (heap_items c.loop-pair.pairs) (heap_items c.pop.new.self)
    c.loop-pair.members c.in-Some.pair c.loop-pair.invariant.queued c.in-Some.ensures.permutation)

pub add_sum-requires-clause-fitting : goal.add_sum-requires-clause-fitting
add_sum-requires-clause-fitting c =
    let is = c.in_ok-sum.ensures in
    subst (λ n. AreFitting n c.args.limit c.loop-pair.members)
    (sym (first_fits c.args.at c.args.limit c.args.members.now (heap_items c.loop-pair.pairs)
    (heap_items c.pop.new.self) c.loop-pair.members c.in-Some.pair c.in_ok-sum.sum.items
    c.loop-pair.invariant.queued c.in-Some.ensures.permutation is).0) c.loop-pair.invariant.queued.fitting

pub add_sum-requires-clause-small : goal.add_sum-requires-clause-small
add_sum-requires-clause-small c =
    let is = c.in_ok-sum.ensures in
    (first_fits c.args.at c.args.limit c.args.members.now (heap_items c.loop-pair.pairs) (heap_items c.pop.new.self)
    c.loop-pair.members c.in-Some.pair c.in_ok-sum.sum.items c.loop-pair.invariant.queued
    c.in-Some.ensures.permutation is).1

pub returns-in_err-add_sum-clause-refused : goal.returns-in_err-add_sum-clause-refused
returns-in_err-add_sum-clause-refused c =
    λ m stage.
    let is = c.in_ok-sum.ensures in
    let due = first_due m c.args.at c.args.limit c.args.members.now (heap_items c.loop-pair.pairs)
    (heap_items c.pop.new.self) c.loop-pair.members c.in-Some.pair c.in_ok-sum.sum.items
    c.loop-pair.invariant.queued c.in-Some.ensures.permutation c.in-Some.ensures.heap_order is stage in
    let e = err_from_is_err_and c.from_residual-in_err-add_sum.result c.from_residual-in_err-add_sum.ensures.1 in
    rw (e.1, e.2) (c.in_err-add_sum.ensures.refused m (c.loop-pair.invariant.queued.stage m stage) due)

pub pair_up-requires-in-Some-clause-members : goal.pair_up-requires-in-Some-clause-members
pair_up-requires-in-Some-clause-members c =
    let is = c.in_ok-sum.ensures in
    let fits = subst (λ n. AreFitting n c.args.limit c.add_sum.new.members)
    (first_fits c.args.at c.args.limit c.args.members.now (heap_items c.loop-pair.pairs) (heap_items c.pop.new.self)
    c.loop-pair.members c.in-Some.pair c.in_ok-sum.sum.items c.loop-pair.invariant.queued
    c.in-Some.ensures.permutation is).0 c.in_ok-add_sum.ensures.fitting in
    fits.members

pub loop-pair-smaller : goal.loop-pair-smaller
loop-pair-smaller c =
    let now = c.loop-pair.members in
    let later = c.add_sum.new.members in
    let es = heap_items c.loop-pair.pairs in
    let rest = heap_items c.pop.new.self in
    let next = heap_items c.pair_up-in-Some.new.pairs in
    let is = c.in_ok-sum.ensures in
    let fits = subst (λ n. AreFitting n c.args.limit later) (first_fits c.args.at c.args.limit c.args.members.now
    (heap_items c.loop-pair.pairs) (heap_items c.pop.new.self) c.loop-pair.members c.in-Some.pair
    c.in_ok-sum.sum.items c.loop-pair.invariant.queued c.in-Some.ensures.permutation is).0
    c.in_ok-add_sum.ensures.fitting in
    let count : c.len-paired.result ≡ length now = omega (arith, c.len-paired.ensures) in
    let popped : length es ≡ length rest + 1 = omega (
      arith,
      length_permutation es (c.in-Some.pair ∷ rest) c.in-Some.ensures.permutation,
    ) in
    let up = c.in_ok-pair_up-2.ensures in
    work_falls c.args.limit (length now) (length later) (length es) (length rest) (length next)
    (grows_length now later c.in_ok-add_sum.ensures.grows) c.in_ok-add_sum.ensures.one fits.short popped
    (subst (λ n. IsPairedUp c.args.at later n (length later) rest next) count up).few

pub loop-pair-preserved : goal.loop-pair-preserved
loop-pair-preserved c =
    let now = c.loop-pair.members in
    let later = c.add_sum.new.members in
    let es = heap_items c.loop-pair.pairs in
    let rest = heap_items c.pop.new.self in
    let next = heap_items c.pair_up-in-Some.new.pairs in
    let is = c.in_ok-sum.ensures in
    let fits = subst (λ n. AreFitting n c.args.limit later) (first_fits c.args.at c.args.limit c.args.members.now
    (heap_items c.loop-pair.pairs) (heap_items c.pop.new.self) c.loop-pair.members c.in-Some.pair
    c.in_ok-sum.sum.items c.loop-pair.invariant.queued c.in-Some.ensures.permutation is).0
    c.in_ok-add_sum.ensures.fitting in
    let count : c.len-paired.result ≡ length now = omega (arith, c.len-paired.ensures) in
    let up = c.in_ok-pair_up-2.ensures in
    let step = λ (m : Matrix) (stage : IsStage m c.args.at now) (covers : CoversBelow m c.args.at c.in-Some.pair.norm now).
    c.in_ok-add_sum.ensures.stage m stage
    (pair_due m c.args.at now c.in-Some.pair c.in_ok-sum.sum.items stage
    (queue_first c.args.at c.args.limit c.args.members.now (heap_items c.loop-pair.pairs)
    (heap_items c.pop.new.self) c.loop-pair.members c.in-Some.pair c.loop-pair.invariant.queued
    c.in-Some.ensures.permutation) is covers) in
    record {
      queued = queue_more c.args.at c.args.limit c.args.members.now es rest next now later c.in-Some.pair
          c.loop-pair.invariant.queued c.in-Some.ensures.permutation c.in-Some.ensures.heap_order
          fits c.in_ok-add_sum.ensures.grows (subst (IsReducible later) is c.in_ok-add_sum.ensures.reducible) step
          (subst (λ n. IsPairedUp c.args.at later n (length later) rest next) count up);
      ranks = c.in_ok-add_sum.ensures.ranks;
    }

pub returns-clause-fitting : goal.returns-clause-fitting
returns-clause-fitting c = c.loop-pair.invariant.queued.fitting

pub returns-clause-completed : goal.returns-clause-completed
returns-clause-completed c =
    λ m stage.
    let none : length (heap_items c.loop-pair.pairs) ≡ 0 = omega (arith, c.in_default.ensures.none) in
    queue_ended m c.args.at c.args.limit c.args.members.now (heap_items c.loop-pair.pairs) c.loop-pair.members
    c.loop-pair.invariant.queued none stage
