use Rattle.std.proofs.Common.{◌≡◌, ◌≤ℤ◌, ◌++◌, ◌∷◌, [], pos, get_or, arith, rules, w64, FitsSigned, ◌∙◌, ap}
use Rattle.std.proofs.lemmas.Int.{to_z-of_z}
use Rattle.std.proofs.lemmas.List.Elements.{AllZip-get_or, length_all_zip}
use Rattle.run_theory.specs.BrickRuns.{nearest}
use Rattle.step_targets.proofs.BoundLaws.{AreBetween-more, AreBetween-all, zip_with-more, zip_with-all}
use Rattle.brick_phase.proofs.starts.nearest_point.Goals as goal

pub nearest_to_zero-requires : goal.nearest_to_zero-requires
nearest_to_zero-requires c =
    let same = length_all_zip ◌≤ℤ◌ c.args.lower.now c.args.upper.now c.requires in
    let below = AllZip-get_or ◌≤ℤ◌ c.args.lower.now c.args.upper.now c.loop-at.at (pos 0) (pos 0) c.requires
    (omega arith) in
    let low : FitsSigned w64 (get_or c.args.lower.now c.loop-at.at (pos 0)) = search rules in
    let high : FitsSigned w64 (get_or c.args.upper.now c.loop-at.at (pos 0)) = search rules in
    simp to_z-of_z below

pub loop-at-preserved : goal.loop-at-preserved
loop-at-preserved c =
    let lower = c.args.lower.now in
    let upper = c.args.upper.now in
    let n = c.loop-at.at in
    let same = length_all_zip ◌≤ℤ◌ lower upper c.requires in
    let low : FitsSigned w64 (get_or lower n (pos 0)) = search rules in
    let high : FitsSigned w64 (get_or upper n (pos 0)) = search rules in
    let found : FitsSigned w64 c.nearest_to_zero.result = search rules in
    let value : c.nearest_to_zero.result ≡ nearest (get_or lower n (pos 0)) (get_or upper n (pos 0)) =
    simp to_z-of_z at c.nearest_to_zero.ensures.value in
    let above = simp to_z-of_z at c.nearest_to_zero.ensures.above in
    let below = simp to_z-of_z at c.nearest_to_zero.ensures.below in
    let pushed : c.push.new.self.items ≡ c.loop-at.point.items ++ c.nearest_to_zero.result ∷ [] =
    simp to_z-of_z at c.in_ok-push.ensures.items in
    record {
      so_far =
          zip_with-more nearest lower upper c.loop-at.point.items c.push.new.self.items n (omega arith)
          (omega (arith, same)) c.loop-at.invariant.so_far
          (pushed ∙ ap (λ x. c.loop-at.point.items ++ x ∷ []) value);
      within =
          AreBetween-more lower upper c.loop-at.point.items c.push.new.self.items n c.nearest_to_zero.result
          (omega arith) (omega (arith, same))
          c.loop-at.invariant.within pushed above below;
    }

pub returns-clause-point : goal.returns-clause-point
returns-clause-point c =
    let same = length_all_zip ◌≤ℤ◌ c.args.lower.now c.args.upper.now c.requires in
    zip_with-all nearest c.args.lower.now c.args.upper.now c.loop-at.point.items c.loop-at.at (omega arith)
    (omega (arith, same)) c.loop-at.invariant.so_far

pub returns-clause-within : goal.returns-clause-within
returns-clause-within c =
    let same = length_all_zip ◌≤ℤ◌ c.args.lower.now c.args.upper.now c.requires in
    AreBetween-all c.args.lower.now c.args.upper.now c.loop-at.point.items c.loop-at.at (omega arith)
    (omega (arith, same)) c.loop-at.invariant.within
