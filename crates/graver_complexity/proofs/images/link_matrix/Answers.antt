use Rattle.std.proofs.Common.{◌≡◌, ◌≤◌, ◌+◌, ◌-◌, ◌∙◌, arith, refl, sym, subst, length}
use Rattle.std.specs.List.{All}
use Rattle.lattice_theory.specs.BasisLimits.{IsNarrow}
use Rattle.graver_complexity.proofs.LinkLaws.{rows_none, rows_more, wide_fault, of_error, rows_fit, rows_whole}
use Rattle.graver_complexity.proofs.LinkLaws.{rows_narrow}
use Rattle.graver_complexity.proofs.images.link_matrix.Goals as goal

pub loop-i-init : goal.loop-i-init
loop-i-init c = rows_none c.args.g2.now.rows c.args.a1.now.rows c.new-entries.result.items c.new-entries.ensures.items

pub loop-i-preserved : goal.loop-i-preserved
loop-i-preserved c =
    let place : c.loop-i.i + 1 - 1 ≡ c.loop-i.i = omega arith in
    rows_more c.args.g2.now.rows c.args.a1.now.rows c.loop-i.i c.row.result.now c.loop-i.entries.items
    c.add_row.new.entries.items (rw place at c.row.ensures.entries) c.in_ok-add_row.ensures.products
    c.in_ok-add_row.ensures.small c.loop-i.invariant

pub returns-in_err-add_row-clause-refused : goal.returns-in_err-add_row-clause-refused
returns-in_err-add_row-clause-refused c =
    let place : c.loop-i.i + 1 - 1 ≡ c.loop-i.i = omega arith in
    let fault = c.in_err-add_row.field-0.0 in
    of_error c.from_residual.result fault _ c.from_residual.ensures.1
    (wide_fault c.args.g2.now.rows c.args.a1.now.rows c.loop-i.i (length c.args.g2.now.rows) c.row.result.now
    c.loop-i.entries.items _ fault (rw place at c.row.ensures.entries) refl c.in_err-add_row.ensures.refused
    c.loop-i.invariant)

pub new-requires : goal.new-requires
new-requires c =
    let all : length c.args.a1.now.rows ≤ c.loop-i.i = omega (arith, c.rows-i-end.ensures, c.loop-i-test.false) in
    rows_fit c.args.a1.now c.args.g2.now.rows c.loop-i.i c.loop-i.entries.items all c.loop-i.invariant
    c.rows.result c.rows-2.result c.rows.ensures c.rows-2.ensures

pub returns-clause-links : goal.returns-clause-links
returns-clause-links c =
    let all : length c.args.a1.now.rows ≤ c.loop-i.i = omega (arith, c.rows-i-end.ensures, c.loop-i-test.false) in
    c.new.ensures
    ∙ rows_whole c.args.a1.now c.args.g2.now.rows c.loop-i.i c.loop-i.entries.items all c.loop-i.invariant
    c.rows.result c.rows-2.result c.rows.ensures c.rows-2.ensures

pub returns-clause-small : goal.returns-clause-small
returns-clause-small c =
    let all : length c.args.a1.now.rows ≤ c.loop-i.i = omega (arith, c.rows-i-end.ensures, c.loop-i-test.false) in
    let whole = c.new.ensures
    ∙ rows_whole c.args.a1.now c.args.g2.now.rows c.loop-i.i c.loop-i.entries.items all c.loop-i.invariant
    c.rows.result c.rows-2.result c.rows.ensures c.rows-2.ensures in
    subst (λ m. All IsNarrow m.rows) (sym whole)
    (rows_narrow c.args.a1.now c.args.g2.now.rows c.loop-i.i c.loop-i.entries.items all c.loop-i.invariant)
