use Rattle.std.proofs.Common.{◌≡◌, ◌∙◌, ◌^◌, ap, length, subst, sym}
use Rattle.lattice_theory.specs.SignedSums.{vectors}
use Rattle.fold_theory.specs.Programs.{link_rests}
use Rattle.run_theory.specs.Folds.{IsSmallImage}
use Rattle.walk_ends.proofs.CallerLemmas.{small_image_step}
use Rattle.brick_dp.specs.Ends.{ending}
use Rattle.brick_dp.proofs.EndLaws.{ending_is, AreAtMost-push}
use Rattle.brick_dp.proofs.LayerLaws.{nodes_more}
use Rattle.brick_dp.proofs.ends.last_layer.Goals as goal

pub missed_after-after-requires-clause-rests : goal.missed_after-after-requires-clause-rests
missed_after-after-requires-clause-rests c =
    ap length c.deref.ensures.value ∙ c.in_ok-rests.ensures.count

pub missed_after-after-requires-clause-step : goal.missed_after-after-requires-clause-step
missed_after-after-requires-clause-step c =
    small_image_step c.program-program.result.now c.args.k c.sum.result.now c.requires.short
    (subst (λ p. IsSmallImage p c.sum.result.now) (sym c.program-program.ensures) c.sum.ensures.image)

pub loop-i-preserved : goal.loop-i-preserved
loop-i-preserved c =
    let f = c.args.fold.now in
    record {
      nodes =
          nodes_more (λ w cell. cell ≡ ending f c.args.k (link_rests f.program c.args.point.now) w) (vectors f.sums)
          c.loop-i.layer.items _ c.loop-i.i
          c.sum.result.now c.end.result c.sum.ensures.vector
          (ending_is f c.args.k c.args.point.now c.sum.result.now c.deref.result.now c.link_residual-before.result
          c.missed_after-after.result c.phase.result
          c.program-program.result.now c.end.result c.program-program.ensures (c.deref.ensures.value
          ∙ c.in_ok-rests.ensures.rests) c.phase.ensures
          c.link_residual-before.ensures.residual c.missed_after-after.ensures.missed c.end.ensures.cost)
          c.in_ok-push.ensures.items c.loop-i.invariant.nodes;
      small = AreAtMost-push (2 ^ 118) c.loop-i.layer.items _ c.end.result c.in_ok-push.ensures.items
          c.end.ensures.small c.loop-i.invariant.small;
    }
