use Rattle.std.proofs.Common.{◌≡◌, ◌<◌, ◌∙◌, [], false, ap, arith, subst, sym, length, get_or}
use Rattle.std.specs.List.{All}
use Rattle.std.proofs.lemmas.List.{take_all}
use Rattle.std.proofs.lemmas.List.Elements.{All-more}
use Rattle.std.proofs.lemmas.Option.{get_or_from_slice_get}
use Rattle.lattice_theory.specs.Vectors.{conforms, opposite}
use Rattle.pottier.specs.Ranks.{lies_below, ranked_in}
use Rattle.pottier.proofs.PairLaws.{reducible_as, reducible_turned, not_below}
use Rattle.pottier.proofs.RankLaws.{no_rank, ranked_there, placed_at}
use Rattle.int_vectors.specs.Signs.{signs_of, has_places}
use Rattle.int_vectors.proofs.SignLaws.{places_apart}
use Rattle.pottier.proofs.below.has_below.Goals as goal
use Rattle.pottier.proofs.below.has_below.Goals.{then-lies_below-via-then-lies_below}
use Rattle.pottier.proofs.below.has_below.Goals.{then-lies_below-via-else-lies_below+then-turned_lies_below}

pub loop-rank-preserved-then-not-has_places : goal.loop-rank-preserved-then-not-has_places
loop-rank-preserved-then-not-has_places c =
    let vs = c.args.members.now in
    let rs = c.args.ranks.now in
    let i = c.loop-rank.rank-index in
    let z = c.args.z.now in
    let low : i < length rs = omega arith in
    let r = get_or rs i no_rank in
    let missing : has_places (signs_of (ranked_in vs r)) (signs_of z) ≡ false =
    (λ k. has_places ((sym (placed_at vs rs i no_rank c.requires.placed low).signs) k)
    (sym c.signs_of-plain.ensures k)) ∙ sym c.has_places.ensures ∙ c.if-not-has_places.true in
    let apart = places_apart (ranked_in vs r) z missing in
    All-more (λ x. lies_below (ranked_in vs x) z ≡ false) rs i no_rank low c.loop-rank.invariant
    (not_below (ranked_in vs r) z apart.0 apart.1)

pub lies_below-requires-clause-signs : goal.lies_below-requires-clause-signs
lies_below-requires-clause-signs c =
    let vs = c.args.members.now in
    let rs = c.args.ranks.now in
    let i = c.loop-rank.rank-index in
    let low : i < length rs = omega arith in
    (placed_at vs rs i no_rank c.requires.placed low).signs
    ∙ ap signs_of (get_or_from_slice_get vs (get_or rs i no_rank).place _ [] c.get-member.ensures.member)

pub turned_lies_below-requires-clause-signs : goal.turned_lies_below-requires-clause-signs
turned_lies_below-requires-clause-signs c =
    let vs = c.args.members.now in
    let rs = c.args.ranks.now in
    let i = c.loop-rank.rank-index in
    let low : i < length rs = omega arith in
    (placed_at vs rs i no_rank c.requires.placed low).signs
    ∙ ap signs_of (get_or_from_slice_get vs (get_or rs i no_rank).place _ [] c.get-member.ensures.member)

pub returns-then-lies_below : goal.returns-then-lies_below
returns-then-lies_below c =
    let vs = c.args.members.now in
    let z = c.args.z.now in
    let v = c.get-member.result.now in
    let there = ranked_there vs (get_or c.args.ranks.now c.loop-rank.rank-index no_rank) v
    c.get-member.ensures.member in
    elim c.then-lies_below.branch [
      | then-lies_below-via-then-lies_below w ↦
          reducible_as vs v z there (sym c.lies_below.ensures ∙ w.if-lies_below.true)
      | then-lies_below-via-else-lies_below+then-turned_lies_below w ↦
          reducible_turned vs v z there (sym w.turned_lies_below.ensures ∙ w.if-turned_lies_below.true)
    ]

pub loop-rank-preserved : goal.loop-rank-preserved
loop-rank-preserved c =
    let vs = c.args.members.now in
    let rs = c.args.ranks.now in
    let i = c.loop-rank.rank-index in
    let z = c.args.z.now in
    let low : i < length rs = omega arith in
    let r = get_or rs i no_rank in
    let member = get_or_from_slice_get vs r.place _ [] c.get-member.ensures.member in
    All-more (λ x. lies_below (ranked_in vs x) z ≡ false) rs i no_rank low c.loop-rank.invariant
    (not_below (ranked_in vs r) z
    (ap (λ v. conforms v z) member ∙ sym c.lies_below.ensures ∙ c.if-lies_below.false)
    (ap (λ v. conforms (opposite v) z) member ∙ sym c.turned_lies_below.ensures ∙ c.if-turned_lies_below.false))

pub returns : goal.returns
returns c =
    subst (All (λ r. lies_below (ranked_in c.args.members.now r) c.args.z.now ≡ false))
    (take_all c.loop-rank.rank-index c.args.ranks.now (omega arith)) c.loop-rank.invariant
