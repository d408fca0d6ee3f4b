use Rattle.std.proofs.Common.{◌≡◌, ◌+◌, ◌<◌, length, arith, sym, ap, subst}
use Rattle.std.proofs.lemmas.List.{length-map}
use Rattle.run_theory.specs.BrickRuns.{BrickMove}
use Rattle.brick_phase.specs.Moves.{vectors}
use Rattle.brick_phase.specs.Offers.{IsOfferOf, IsBestOf}
use Rattle.brick_phase.proofs.MoveLaws.{vectors-at, FitMoves-at}
use Rattle.brick_phase.proofs.OfferLaws.{Tried, Tried-more, Tried-all, Tried-from_all, IsBestOf-nothing}
use Rattle.brick_phase.proofs.OfferLaws.{IsBestOf-earlier, IsBestOf-same}
use Rattle.brick_phase.proofs.offers.best_offer.Goals as goal
use Rattle.brick_phase.proofs.offers.best_offer.Goals.{in-Some, in_default}

pub offer_of-requires-clause-width : goal.offer_of-requires-clause-width
offer_of-requires-clause-width c =
    let is = vectors-at c.args.moves.now.vectors.items c.deref-vector-items.result.now c.loop-vector.vector-index
    c.vector-item.result
    c.deref-vector-items.ensures.value c.loop-vector-test.true c.vector-item.is in
    (FitMoves-at c.args.program.now c.args.moves.now c.loop-vector.vector-index _ c.deref.result.now c.requires.moves
    (omega (arith, c.loop-vector-test.true, ap length c.deref-vector-items.ensures.value)) is c.deref.ensures.value).0

pub loop-k-preserved : goal.loop-k-preserved
loop-k-preserved c =
    λ b there.
    let p = c.args.program.now in
    let v = c.args.at.now.point.items in
    let u = c.vector-item.result.items in
    let k = c.loop-k.k in
    let m : BrickMove = record { k = k; vector = u } in
    let vs = vectors c.args.moves.now.vectors.items in
    let lengths = c.args.moves.now.lengths in
    let j = c.loop-vector.vector-index in
    let offer : IsOfferOf p b v m c.in_ok-offer.field-0 =
    subst (λ w. IsOfferOf p b v (record { k = k; vector = w }) c.in_ok-offer.field-0) c.deref.ensures.value
    (c.in_ok-offer.ensures b there) in
    elim c.match-branch-2.branch [
      | in-Some w ↦
          subst (IsBestOf p b v (Tried vs lengths j u (k + 1))) (sym w.best-is)
          (IsBestOf-earlier p b v (Tried vs lengths j u k) (Tried vs lengths j u (k + 1)) m c.loop-k.best
          w.in-Some.offer w.earlier.result (Tried-more p b v vs lengths j u k)
          (subst (IsOfferOf p b v m) w.in-Some.is offer) w.earlier.ensures.either w.earlier.ensures.first
          w.earlier.ensures.best (c.loop-k.invariant b there))
      | in_default w ↦
          subst (IsBestOf p b v (Tried vs lengths j u (k + 1))) (sym w.best-is)
          (IsBestOf-nothing p b v (Tried vs lengths j u k) (Tried vs lengths j u (k + 1)) m c.loop-k.best
          (Tried-more p b v vs lengths j u k)
          (subst (IsOfferOf p b v m) w.in_default.is offer) (c.loop-k.invariant b there))
    ]

pub loop-vector-preserved : goal.loop-vector-preserved
loop-vector-preserved c =
    let is = vectors-at c.args.moves.now.vectors.items c.deref-vector-items.result.now c.loop-vector.vector-index
    c.vector-item.result
    c.deref-vector-items.ensures.value c.loop-vector-test.true c.vector-item.is in
    let vs = vectors c.args.moves.now.vectors.items in
    let low : c.loop-vector.vector-index < length vs =
    omega (
      arith,
      c.loop-vector-test.true,
      ap length c.deref-vector-items.ensures.value,
      length-map c.args.moves.now.vectors.items (λ v. v.items),
    ) in
    let all : c.loop-k.k ≡ c.args.moves.now.lengths = omega arith in
    λ b there.
    IsBestOf-same c.args.program.now b c.args.at.now.point.items _ _ c.loop-k.best
    (λ n. Tried-all vs c.args.moves.now.lengths c.loop-vector.vector-index c.vector-item.result.items n low is)
    (λ n. Tried-from_all vs c.args.moves.now.lengths c.loop-vector.vector-index c.vector-item.result.items n low is)
    (subst (λ k. IsBestOf c.args.program.now b c.args.at.now.point.items
    (Tried vs c.args.moves.now.lengths c.loop-vector.vector-index c.vector-item.result.items k) c.loop-k.best) all
    (c.loop-k.invariant b there))
