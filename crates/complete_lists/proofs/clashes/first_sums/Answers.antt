use Rattle.std.proofs.Common.{rules, arith, ◌<◌, ◌^◌, ◌++◌, ◌∷◌, [], ◌+ℤ◌, ◌∙◌, sym, ap, pos, length, get_or}
use Rattle.std.proofs.Common.{unsigned_abs, w64, FitsSigned}
use Rattle.std.proofs.lemmas.Int.{to_z-of_z}
use Rattle.complete_lists.proofs.ClashLaws.{sum-more}
use Rattle.complete_lists.proofs.clashes.first_sums.Goals as goal

pub loop-at-preserved : goal.loop-at-preserved
loop-at-preserved c =
    let f = c.args.f.now in
    let g = c.args.g.now in
    let at = c.loop-at.at in
    let low : at < length f = omega (arith, c.requires.first, c.loop-at-test.true) in
    let low_too : at < length g = omega (arith, c.requires.second, c.loop-at-test.true) in
    let narrow : unsigned_abs (get_or f at (pos 0)) < 2 ^ 31 = c.requires.narrow at (pos 0) low in
    let narrower : unsigned_abs (get_or g at (pos 0)) < 2 ^ 31 = c.requires.narrower at (pos 0) low_too in
    let entry : FitsSigned w64 (get_or f at (pos 0)) = search rules in
    let other : FitsSigned w64 (get_or g at (pos 0)) = search rules in
    let sum : FitsSigned w64 (get_or f at (pos 0) +ℤ get_or g at (pos 0)) = search rules in
    let pushed = simp to_z-of_z at c.in_ok-push.ensures.items in
    pushed ∙ ap (λ v. v ++ (get_or f at (pos 0) +ℤ get_or g at (pos 0)) ∷ []) c.loop-at.invariant
    ∙ sym (sum-more f g at low low_too)
