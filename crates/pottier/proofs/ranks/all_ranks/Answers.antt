use Rattle.std.proofs.Common.{arith, subst, sym, take}
use Rattle.std.proofs.lemmas.List.{length-take-le}
use Rattle.pottier.specs.Ranks.{AreRanks}
use Rattle.pottier.proofs.MemberLaws.{taken_more}
use Rattle.pottier.proofs.ranks.all_ranks.Goals as goal

pub loop-place-preserved : goal.loop-place-preserved
loop-place-preserved c =
    let place = c.loop-place.place in
    let vs = c.args.members.now in
    subst (λ us. AreRanks c.args.at us c.add_rank.new.ranks.items) (sym (taken_more vs place _ c.get.ensures.member))
    (c.in_ok-add_rank.ensures (take place vs) c.loop-place.invariant
    (omega (arith, length-take-le place vs, c.loop-place-test.true)))
