use Rattle.std.proofs.Common.{◌≡◌, ◌++◌, ◌∷◌, [], pos, get_or, arith, rules, w64, FitsSigned, refl, sym, ap, subst, ◌∙◌}
use Rattle.std.proofs.lemmas.Int.{to_z-of_z}
use Rattle.step_targets.specs.Targets.{AreBetween}
use Rattle.step_targets.proofs.BoundLaws.{AreBetween-more, AreBetween-all, zip_with-more, zip_with-all, stepped-within}
use Rattle.step_targets.proofs.BoundLaws.{stepped-places, further}
use Rattle.step_targets.proofs.target.Goals as goal

pub returns-in_default : goal.returns-in_default
returns-in_default c =
    let n = c.loop-at.at in
    let low : FitsSigned w64 (get_or c.args.lower.now n (pos 0)) = search rules in
    let high : FitsSigned w64 (get_or c.args.upper.now n (pos 0)) = search rules in
    let first : FitsSigned w64 (get_or c.args.point.now n (pos 0)) = search rules in
    let second : FitsSigned w64 (get_or c.args.part.now n (pos 0)) = search rules in
    let outside = simp to_z-of_z at c.in_default.ensures in
    λ within. outside (stepped-within c.args.lower.now c.args.upper.now c.args.point.now c.args.part.now c.args.k _ n
    refl c.requires.short
    (omega arith) c.requires.width c.requires.lowers within)

pub loop-at-preserved : goal.loop-at-preserved
loop-at-preserved c =
    let n = c.loop-at.at in
    let low : FitsSigned w64 (get_or c.args.lower.now n (pos 0)) = search rules in
    let high : FitsSigned w64 (get_or c.args.upper.now n (pos 0)) = search rules in
    let first : FitsSigned w64 (get_or c.args.point.now n (pos 0)) = search rules in
    let second : FitsSigned w64 (get_or c.args.part.now n (pos 0)) = search rules in
    let found : FitsSigned w64 c.in-Some.entry = search rules in
    let told = simp to_z-of_z at c.in-Some.ensures in
    let pushed : c.push.new.self.items ≡ c.loop-at.moved.items ++ c.in-Some.entry ∷ [] =
    simp to_z-of_z at c.in_ok-push.ensures.items in
    record {
      so_far =
          zip_with-more (further _) c.args.point.now c.args.part.now c.loop-at.moved.items c.push.new.self.items n
          (omega arith) (omega arith)
          c.loop-at.invariant.so_far (pushed ∙ ap (λ x. c.loop-at.moved.items ++ x ∷ []) told.1);
      within =
          AreBetween-more c.args.lower.now c.args.upper.now c.loop-at.moved.items c.push.new.self.items n
          c.in-Some.entry (omega arith) (omega arith)
          c.loop-at.invariant.within pushed (rw (told.1) told.0.0) (rw (told.1) told.0.1);
    }

pub returns : goal.returns
returns c =
    let n = c.loop-at.at in
    let whole = zip_with-all (further _) c.args.point.now c.args.part.now c.loop-at.moved.items n (omega arith)
    (omega arith) c.loop-at.invariant.so_far in
    let is = whole ∙ sym (stepped-places c.args.point.now c.args.part.now c.args.k _ refl c.requires.short) in
    let within = AreBetween-all c.args.lower.now c.args.upper.now c.loop-at.moved.items n (omega arith) (omega arith)
    c.loop-at.invariant.within in
    (subst (AreBetween c.args.lower.now c.args.upper.now) is within, is)
