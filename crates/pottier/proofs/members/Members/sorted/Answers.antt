use Rattle.std.proofs.Common.{◌≤◌, ◌∙◌, arith, ap, length, subst, sym}
use Rattle.std.specs.List.Sorted.{IsPermutation, IsSorted}
use Rattle.lattice_theory.specs.Vectors.{lex_cmp}
use Rattle.lattice_laws.proofs.VectorLists.{length_rows_of}
use Rattle.pottier.proofs.MemberLaws.{one_width, lent, lent_sorted, lent_push, lent_order, lent_width, lent_more}
use Rattle.pottier.proofs.MemberLaws.{lent_all}
use Rattle.pottier.proofs.members.Members.sorted.Goals as goal

pub loop-place-preserved : goal.loop-place-preserved
loop-place-preserved c =
    lent_push c.args.self.now c.loop-place.order.items c.push.new.self.items c.get.result c.loop-place.place
    c.loop-place.invariant c.in_ok-push.ensures.items c.get.ensures.member

pub push-requires-in-loop-member-clause-width : goal.push-requires-in-loop-member-clause-width
push-requires-in-loop-member-clause-width c =
    let all : length c.args.self.now ≤ c.loop-place.place = omega (
      arith,
      ap length c.self.view_is,
      length_rows_of c.self.inside.count c.self.inside.width c.self.inside.entries.items,
      c.loop-place-test.false,
    ) in
    let order = c.deref-member-items.result.now in
    let permuted : IsPermutation c.args.self.now (lent order) =
    subst (λ us. IsPermutation c.args.self.now (lent us)) (sym c.deref-member-items.ensures.value)
    (lent_order c.args.self.now c.loop-place.order.items c.sort.new.self.items c.loop-place.place
    c.loop-place.invariant all c.sort.ensures.permutation) in
    lent_width c.self.inside.width c.args.self.now order c.loop-member.sorted c.loop-member.member-index _
    (one_width c.self.inside.count c.self.inside.width _ _ c.self.invariant c.self.view_is) permuted
    c.loop-member.invariant c.loop-member-test.true

pub loop-member-preserved : goal.loop-member-preserved
loop-member-preserved c =
    lent_more c.deref-member-items.result.now c.loop-member.sorted c.push-in-loop-member.new.self
    c.loop-member.member-index _ c.loop-member.invariant c.in_ok-push-2.ensures c.loop-member-test.true

pub returns-clause-permutation : goal.returns-clause-permutation
returns-clause-permutation c =
    let all : length c.args.self.now ≤ c.loop-place.place = omega (
      arith,
      ap length c.self.view_is,
      length_rows_of c.self.inside.count c.self.inside.width c.self.inside.entries.items,
      c.loop-place-test.false,
    ) in
    let is = lent_all c.deref-member-items.result.now c.loop-member.sorted c.loop-member.member-index
    c.loop-member.invariant c.loop-member-test.false ∙ ap lent c.deref-member-items.ensures.value in
    subst (IsPermutation c.args.self.now) (sym is)
    (lent_order c.args.self.now c.loop-place.order.items c.sort.new.self.items c.loop-place.place
    c.loop-place.invariant all c.sort.ensures.permutation)

pub returns-clause-sorted : goal.returns-clause-sorted
returns-clause-sorted c =
    let is = lent_all c.deref-member-items.result.now c.loop-member.sorted c.loop-member.member-index
    c.loop-member.invariant c.loop-member-test.false ∙ ap lent c.deref-member-items.ensures.value in
    subst (IsSorted lex_cmp) (sym is) (lent_sorted c.sort.new.self.items c.in_ok-sort.ensures.sorted)
