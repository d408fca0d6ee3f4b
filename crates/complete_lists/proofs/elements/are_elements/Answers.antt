use Rattle.std.proofs.Common.{arith, ◌≡◌, ◌+◌, ◌-◌, ◌∙◌, sym, true, false}
use Rattle.lattice_theory.specs.Lattices.{is_signed_element}
use Rattle.complete_lists.proofs.ScanLaws.{list_all-at}
use Rattle.complete_lists.proofs.elements.are_elements.Goals as goal

pub returns-then-not-is_signed_element : goal.returns-then-not-is_signed_element
returns-then-not-is_signed_element c =
    let place : c.loop-row.row + 1 - 1 ≡ c.loop-row.row = omega arith in
    let there = rw place at c.row.ensures.entries in
    sym (list_all-at (is_signed_element c.args.matrix.now) c.args.basis.now.rows c.loop-row.row c.row.result.now false
    there
    (sym c.is_signed_element.ensures ∙ c.if-not-is_signed_element.true)) ∙ c.loop-row.invariant

pub loop-row-preserved : goal.loop-row-preserved
loop-row-preserved c =
    let place : c.loop-row.row + 1 - 1 ≡ c.loop-row.row = omega arith in
    let there = rw place at c.row.ensures.entries in
    sym (list_all-at (is_signed_element c.args.matrix.now) c.args.basis.now.rows c.loop-row.row c.row.result.now true
    there
    (sym c.is_signed_element.ensures ∙ c.if-not-is_signed_element.false)) ∙ c.loop-row.invariant
