use Rattle.std.proofs.Common.{rules, arith, ◌≡◌, ◌<◌, ◌+◌, ◌-◌, ◌∙◌, sym, ap, pos, length, get_or, true, false, w64}
use Rattle.std.proofs.Common.{FitsSigned}
use Rattle.std.specs.Int.{w128}
use Rattle.std.specs.Ordering.{int_eq}
use Rattle.std.proofs.lemmas.Int.{to_z-of_z}
use Rattle.complete_lists.proofs.ScanLaws.{same-at}
use Rattle.complete_lists.proofs.elements.is_image.Goals as goal

pub returns-then-not-is_product : goal.returns-then-not-is_product
returns-then-not-is_product c =
    let entry : FitsSigned w64 (get_or c.args.image.now c.loop-row.row (pos 0)) = search rules in
    let product : FitsSigned w128 c.dot.result = search rules in
    let test = simp to_z-of_z at c.if-not-is_product.ensures in
    let place : c.loop-row.row + 1 - 1 ≡ c.loop-row.row = omega arith in
    let low : c.loop-row.row < length c.args.image.now =
    omega (arith, c.requires.height, c.rows-row-end.ensures, c.loop-row-test.true) in
    let there = rw place at c.row.ensures.entries in
    sym (same-at c.args.image.now c.args.matrix.now.rows c.args.v.now c.row.result.now c.loop-row.row false low there
    (ap (int_eq (get_or c.args.image.now c.loop-row.row (pos 0))) (sym c.dot.ensures.value) ∙ sym test))
    ∙ c.loop-row.invariant

pub loop-row-preserved : goal.loop-row-preserved
loop-row-preserved c =
    let entry : FitsSigned w64 (get_or c.args.image.now c.loop-row.row (pos 0)) = search rules in
    let product : FitsSigned w128 c.dot.result = search rules in
    let test = simp to_z-of_z at c.if-not-is_product.ensures in
    let place : c.loop-row.row + 1 - 1 ≡ c.loop-row.row = omega arith in
    let low : c.loop-row.row < length c.args.image.now =
    omega (arith, c.requires.height, c.rows-row-end.ensures, c.loop-row-test.true) in
    let there = rw place at c.row.ensures.entries in
    sym (same-at c.args.image.now c.args.matrix.now.rows c.args.v.now c.row.result.now c.loop-row.row true low there
    (ap (int_eq (get_or c.args.image.now c.loop-row.row (pos 0))) (sym c.dot.ensures.value) ∙ sym test))
    ∙ c.loop-row.invariant
