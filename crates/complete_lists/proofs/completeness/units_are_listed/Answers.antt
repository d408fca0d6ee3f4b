use Rattle.std.proofs.Common.{arith, ◌<◌, ◌∙◌, sym, ap, true}
use Rattle.lattice_theory.specs.Vectors.{is_listed}
use Rattle.lattice_theory.specs.Matrices.{element, unit_vector}
use Rattle.complete_lists.proofs.ScanLaws.{list_all-numbers}
use Rattle.complete_lists.proofs.completeness.units_are_listed.Goals as goal

pub loop-col-preserved : goal.loop-col-preserved
loop-col-preserved c =
    let low : c.loop-col.col < c.args.matrix.now.cols =
    omega (arith, c.cols-col-end.ensures.cols, c.loop-col-test.true) in
    let value = ap (is_listed c.args.basis.now.rows)
    (sym (c.deref.ensures.value ∙ c.in_ok-unit_element.ensures)) ∙ sym c.is_listed.ensures
    ∙ c.if-not-is_listed.false in
    sym (list_all-numbers (λ j. is_listed c.args.basis.now.rows
    (element c.args.matrix.now (unit_vector c.args.matrix.now.cols j)))
    c.loop-col.col c.args.matrix.now.cols true low value) ∙ c.loop-col.invariant
