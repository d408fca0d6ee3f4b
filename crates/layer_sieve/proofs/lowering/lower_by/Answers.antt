use Rattle.std.proofs.Common.{◌≡◌, ◌+◌, ◌-◌, arith, rules, sym, subst, length, ◌∙◌, FitsSigned}
use Rattle.std.specs.Int.{w128}
use Rattle.std.proofs.lemmas.Int.{to_z-of_z}
use Rattle.std.proofs.lemmas.Option.{slice_get-get_or}
use Rattle.std.proofs.lemmas.Bool.{OnTrue_at}
use Rattle.std.specs.Bool.{OnFalse}
use Rattle.lattice_theory.specs.SignedSums.{vectors}
use Rattle.sieve_laws.specs.Sieve.{Layer}
use Rattle.sieve_laws.proofs.Lowering.{IsLowered, lowered_none, lowered_idle, lowered_more, lowered_all}
use Rattle.layer_sieve.specs.Tried.{IsTried}
use Rattle.layer_sieve.proofs.FlagLaws.{same_more, same_kept, same_told, count_more}
use Rattle.layer_sieve.proofs.ReachLaws.{size_vectors}
use Rattle.layer_sieve.proofs.TriedLaws.{none_tried, tried_out, tried_by}
use Rattle.layer_sieve.proofs.lowering.lower_by.Goals as goal
use Rattle.layer_sieve.proofs.lowering.lower_by.Goals.{then-not-is_idle, else-not-is_idle}

pub loop-m-init : goal.loop-m-init
loop-m-init c =
    let limit : FitsSigned w128 c.args.limit = search rules in
    record {
      lowered =
          simp to_z-of_z (
          subst (λ (l : Layer). IsLowered (vectors c.args.targets.now) c.args.menu.now c.args.limit c.args.next.now 0 l)
          (sym c.requires.begins) (
          lowered_none (vectors c.args.targets.now) c.requires.rising c.args.menu.now c.args.limit c.args.next.now
          (c.requires.size ∙ sym (size_vectors c.args.targets.now)) c.requires.stays
          )
          );
      same = search rules;
      tops = simp to_z-of_z c.requires.tops;
      rising = omega arith;
      counted = omega arith;
      tried = none_tried c.args.next.now _ _ (omega arith);
    }

pub loop-m-preserved : goal.loop-m-preserved
loop-m-preserved c =
    let limit : FitsSigned w128 c.args.limit = search rules in
    let so_far : IsLowered (vectors c.args.targets.now) c.args.menu.now c.args.limit c.args.next.now c.loop-m.m-index
    c.loop-m.layer = simp to_z-of_z at c.loop-m.invariant.lowered in
    let tried_so_far : IsTried c.loop-m.m-index c.args.next.now c.args.limit (c.loop-m.moves - c.args.moves.now) =
    simp to_z-of_z at c.loop-m.invariant.tried in
    elim c.if-not-is_idle.branch [
      | then-not-is_idle w ↦
          let lowered = simp to_z-of_z at w.lower-differs.ensures.lowered in
          let here : IsTried 1 c.args.next.now c.args.limit (w.lower-differs.new.moves - c.loop-m.moves) =
          simp to_z-of_z at w.lower-differs.ensures.tried in
          let tried : IsTried (c.loop-m.m-index + 1) c.args.next.now c.args.limit
          (c.if-not-is_idle.moves - c.args.moves.now) =
          tried_by c.args.next.now c.args.limit c.loop-m.m-index (c.loop-m.moves - c.args.moves.now)
          (w.lower-differs.new.moves - c.loop-m.moves) (c.if-not-is_idle.moves - c.args.moves.now)
          (omega (arith, w.moves-is, w.lower-differs.ensures.rising, c.loop-m.invariant.rising)) tried_so_far here in
          record {
            lowered =
                simp to_z-of_z (
                subst (λ (l : Layer). IsLowered (vectors c.args.targets.now) c.args.menu.now c.args.limit
                c.args.next.now (c.loop-m.m-index + 1) l) (sym w.layer-is) (
                lowered_more (vectors c.args.targets.now) c.requires.rising c.args.menu.now c.args.limit
                c.args.next.now c.loop-m.layer
                w.lower-differs.new.layer c.loop-m.m-index _
                (slice_get-get_or c.args.menu.now c.loop-m.m-index _ c.loop-m-test.true) lowered so_far
                )
                );
            same =
                same_told c.if-not-is_idle.differs _ c.args.next.now c.if-not-is_idle.layer w.differs-is (
                same_more c.loop-m.differs w.lower-differs.result c.args.next.now c.loop-m.layer
                c.if-not-is_idle.layer c.loop-m.invariant.same
                (subst (λ (l : Layer). OnFalse w.lower-differs.result (l ≡ c.loop-m.layer))
                (sym w.layer-is) w.lower-differs.ensures.same)
                );
            tops = simp to_z-of_z (simp to_z-of_z at c.is_idle.ensures.tops);
            rising = omega (arith, w.moves-is, w.lower-differs.ensures.rising, c.loop-m.invariant.rising);
            counted = count_more c.args.moves.now c.loop-m.moves c.if-not-is_idle.moves
                (length c.args.targets.now) c.loop-m.m-index c.loop-m.invariant.counted
                (omega (arith, w.moves-is, w.lower-differs.ensures.counted));
            tried = simp to_z-of_z tried;
          }
      | else-not-is_idle w ↦
          let idle = simp to_z-of_z at c.is_idle.ensures.idle in
          let tried : IsTried (c.loop-m.m-index + 1) c.args.next.now c.args.limit
          (c.if-not-is_idle.moves - c.args.moves.now) =
          tried_out c.args.next.now c.args.limit c.loop-m.m-index (c.loop-m.moves - c.args.moves.now)
          (c.if-not-is_idle.moves - c.args.moves.now) (omega (arith, w.moves-is)) tried_so_far in
          record {
            lowered =
                simp to_z-of_z (
                subst (λ (l : Layer). IsLowered (vectors c.args.targets.now) c.args.menu.now c.args.limit
                c.args.next.now (c.loop-m.m-index + 1) l) (sym w.layer-is) (
                lowered_idle (vectors c.args.targets.now) c.requires.rising c.args.menu.now c.args.limit
                c.args.next.now c.loop-m.layer
                c.loop-m.m-index _
                (slice_get-get_or c.args.menu.now c.loop-m.m-index _ c.loop-m-test.true)
                (OnTrue_at w.if-not-is_idle.false idle) so_far
                )
                );
            same = same_kept c.loop-m.differs c.if-not-is_idle.differs c.args.next.now c.loop-m.layer
                c.if-not-is_idle.layer w.differs-is w.layer-is c.loop-m.invariant.same;
            tops = simp to_z-of_z (simp to_z-of_z at c.is_idle.ensures.tops);
            rising = omega (arith, w.moves-is, c.loop-m.invariant.rising);
            counted = count_more c.args.moves.now c.loop-m.moves c.if-not-is_idle.moves
                (length c.args.targets.now) c.loop-m.m-index c.loop-m.invariant.counted (omega (arith, w.moves-is));
            tried = simp to_z-of_z tried;
          }
    ]

pub returns-clause-over : goal.returns-clause-over
returns-clause-over c =
    let limit : FitsSigned w128 c.args.limit = search rules in
    let so_far : IsLowered (vectors c.args.targets.now) c.args.menu.now c.args.limit c.args.next.now c.loop-m.m-index
    c.loop-m.layer = simp to_z-of_z at c.loop-m.invariant.lowered in
    lowered_all (vectors c.args.targets.now) c.requires.rising c.args.menu.now c.args.limit c.args.next.now
    c.loop-m.layer
    (subst (λ n. IsLowered (vectors c.args.targets.now) c.args.menu.now c.args.limit c.args.next.now n c.loop-m.layer)
    (omega (arith, c.loop-m-test.false, c.loop-m.auto.m-index-end)) so_far)

pub returns-clause-tops : goal.returns-clause-tops
returns-clause-tops c =
    let limit : FitsSigned w128 c.args.limit = search rules in
    simp to_z-of_z at c.loop-m.invariant.tops

pub returns-clause-tried : goal.returns-clause-tried
returns-clause-tried c =
    let limit : FitsSigned w128 c.args.limit = search rules in
    let so_far : IsTried c.loop-m.m-index c.args.next.now c.args.limit (c.loop-m.moves - c.args.moves.now) =
    simp to_z-of_z at c.loop-m.invariant.tried in
    subst (λ n. IsTried n c.args.next.now c.args.limit (c.loop-m.moves - c.args.moves.now))
    (omega (arith, c.loop-m-test.false, c.loop-m.auto.m-index-end)) so_far
