use Rattle.std.proofs.Common.{◌+◌, ◌-◌, arith, rules, ap, sym, ◌∙◌, None, Some, FitsSigned, subst, set}
use Rattle.std.specs.Int.{w128}
use Rattle.std.proofs.lemmas.Int.{to_z-of_z}
use Rattle.std.proofs.lemmas.Option.{slice_get-get_or}
use Rattle.lattice_theory.specs.SignedSums.{vectors}
use Rattle.brick_sums.specs.Places.{width}
use Rattle.sieve_laws.specs.Sieve.{Layer, IsOffer, live}
use Rattle.sieve_laws.proofs.Lowering.{IsLoweredUpTo, sums_none, sums_more, sums_unreached, sums_all}
use Rattle.layer_sieve.proofs.FlagLaws.{same_more, same_cell, same_kept, same_told}
use Rattle.layer_sieve.proofs.TriedLaws.{IsTriedUpTo, tried_none, tried_unmoved, tried_more, tried_all}
use Rattle.layer_sieve.proofs.lowering.lower.Goals as goal
use Rattle.layer_sieve.proofs.lowering.lower.Goals.{in-Some, in_default}

pub loop-from-init : goal.loop-from-init
loop-from-init c = record {
  lowered = sums_none (vectors c.args.targets.now) _ c.args.m c.args.layer.now;
  same = search rules;
  rising = omega arith;
  counted = omega arith;
  tried = tried_none (vectors c.args.targets.now) c.args.m.place c.args.next.now _ _ (omega arith);
}

pub loop-from-preserved : goal.loop-from-preserved
loop-from-preserved c =
    let limit : FitsSigned w128 c.args.limit = search rules in
    let so_far : IsLoweredUpTo (vectors c.args.targets.now) (live c.args.limit c.args.next.now) c.args.m
    c.args.layer.now c.loop-from.layer c.loop-from.from = simp to_z-of_z at c.loop-from.invariant.lowered in
    let tried_so_far : IsTriedUpTo (vectors c.args.targets.now) c.args.m.place c.args.next.now c.args.limit
    c.loop-from.from (c.loop-from.moves - c.args.moves.now) = simp to_z-of_z at c.loop-from.invariant.tried in
    elim c.match-offer.branch [
      | in-Some w ↦
          let cost : FitsSigned w128 w.in-Some.cost = search rules in
          let offers : IsOffer (vectors c.args.targets.now) (live c.args.limit c.args.next.now) c.args.m
          c.loop-from.from (Some w.in-Some.cost) = simp to_z-of_z at w.in-Some.ensures in
          let cell = simp to_z-of_z at w.lower_cell-is_lower.ensures.lesser in
          let lowered : IsLoweredUpTo (vectors c.args.targets.now) (live c.args.limit c.args.next.now) c.args.m
          c.args.layer.now c.match-offer.layer (c.loop-from.from + 1) =
          sums_more (vectors c.args.targets.now) (live c.args.limit c.args.next.now) c.args.m c.args.layer.now
          c.loop-from.layer c.match-offer.layer c.loop-from.from _ (Some w.in-Some.cost)
          (slice_get-get_or c.loop-from.layer c.loop-from.from None
          (omega (
            arith,
            c.loop-from-test.true,
            c.len-from-end.ensures.count,
            c.loop-from.auto.layer,
            c.requires.cells,
          )))
          offers (w.layer-is ∙ ap (set c.loop-from.layer c.loop-from.from) cell) so_far in
          let tried : IsTriedUpTo (vectors c.args.targets.now) c.args.m.place c.args.next.now c.args.limit
          (c.loop-from.from + 1) (c.match-offer.moves - c.args.moves.now) =
          tried_more (vectors c.args.targets.now) c.args.m.place c.args.next.now c.args.limit c.requires.rising
          (width c.args.targets.now) c.len-from-end.ensures.widths c.loop-from.from
          (c.loop-from.moves - c.args.moves.now) (c.match-offer.moves - c.args.moves.now) offers.0 offers.1
          (omega (arith, w.moves-is, w.tick.ensures.more, c.loop-from.invariant.rising)) tried_so_far in
          record {
            lowered = simp to_z-of_z lowered;
            same =
                same_told c.match-offer.is_lower _ c.args.layer.now c.match-offer.layer w.is_lower-is (
                same_more c.loop-from.is_lower w.lower_cell-is_lower.result c.args.layer.now c.loop-from.layer
                c.match-offer.layer c.loop-from.invariant.same
                (same_cell w.lower_cell-is_lower.result c.loop-from.layer c.match-offer.layer c.loop-from.from
                w.lower_cell-is_lower.new.cell w.layer-is
                w.lower_cell-is_lower.ensures.same)
                );
            rising = omega (arith, w.moves-is, w.tick.ensures.rising, c.loop-from.invariant.rising);
            counted = omega (arith, w.moves-is, w.tick.ensures.more, c.loop-from.invariant.counted);
            tried = simp to_z-of_z tried;
          }
      | in_default w ↦
          let none : IsOffer (vectors c.args.targets.now) (live c.args.limit c.args.next.now) c.args.m
          c.loop-from.from None = simp to_z-of_z at w.in_default.ensures in
          let lowered : IsLoweredUpTo (vectors c.args.targets.now) (live c.args.limit c.args.next.now) c.args.m
          c.args.layer.now c.loop-from.layer (c.loop-from.from + 1) =
          sums_unreached (vectors c.args.targets.now) (live c.args.limit c.args.next.now) c.args.m c.args.layer.now
          c.loop-from.layer c.loop-from.from _
          (slice_get-get_or c.loop-from.layer c.loop-from.from None
          (omega (
            arith,
            c.loop-from-test.true,
            c.len-from-end.ensures.count,
            c.loop-from.auto.layer,
            c.requires.cells,
          )))
          none so_far in
          let tried : IsTriedUpTo (vectors c.args.targets.now) c.args.m.place c.args.next.now c.args.limit
          (c.loop-from.from + 1) (c.match-offer.moves - c.args.moves.now) =
          tried_unmoved (vectors c.args.targets.now) c.args.m.place c.args.next.now c.args.limit c.loop-from.from
          (c.loop-from.moves - c.args.moves.now) (c.match-offer.moves - c.args.moves.now)
          (omega (arith, w.moves-is)) tried_so_far in
          record {
            lowered =
                simp to_z-of_z (
                subst (λ (l : Layer). IsLoweredUpTo (vectors c.args.targets.now) (live c.args.limit c.args.next.now)
                c.args.m c.args.layer.now l (c.loop-from.from + 1)) (sym w.layer-is) lowered
                );
            same = same_kept c.loop-from.is_lower c.match-offer.is_lower c.args.layer.now c.loop-from.layer
                c.match-offer.layer w.is_lower-is w.layer-is c.loop-from.invariant.same;
            rising = omega (arith, w.moves-is, c.loop-from.invariant.rising);
            counted = omega (arith, w.moves-is, c.loop-from.invariant.counted);
            tried = simp to_z-of_z tried;
          }
    ]

pub returns-clause-lowered : goal.returns-clause-lowered
returns-clause-lowered c =
    let limit : FitsSigned w128 c.args.limit = search rules in
    let so_far : IsLoweredUpTo (vectors c.args.targets.now) (live c.args.limit c.args.next.now) c.args.m
    c.args.layer.now c.loop-from.layer c.loop-from.from = simp to_z-of_z at c.loop-from.invariant.lowered in
    sums_all (vectors c.args.targets.now) (live c.args.limit c.args.next.now) c.args.m c.args.layer.now
    c.loop-from.layer c.loop-from.from
    (omega (arith, c.requires.cells, c.loop-from-test.false, c.len-from-end.ensures.count)) so_far

pub returns-clause-tried : goal.returns-clause-tried
returns-clause-tried c =
    let limit : FitsSigned w128 c.args.limit = search rules in
    let so_far : IsTriedUpTo (vectors c.args.targets.now) c.args.m.place c.args.next.now c.args.limit
    c.loop-from.from (c.loop-from.moves - c.args.moves.now) = simp to_z-of_z at c.loop-from.invariant.tried in
    tried_all (vectors c.args.targets.now) c.args.m.place c.args.next.now c.args.limit c.loop-from.from
    (c.loop-from.moves - c.args.moves.now) so_far
