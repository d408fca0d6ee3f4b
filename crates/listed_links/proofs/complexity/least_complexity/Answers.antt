use Rattle.std.proofs.Common.{arith, ◌≡◌, ◌≤◌, ◌+◌, ◌-◌, ◌∙◌, sym, ap, cond, length, true, false}
use Rattle.lattice_theory.specs.Vectors.{is_zero}
use Rattle.complete_lists.proofs.ScanLaws.{list_all-at, list_all-end}
use Rattle.listed_links.proofs.complexity.least_complexity.Goals as goal

pub returns-then-not-is_zero : goal.returns-then-not-is_zero
returns-then-not-is_zero c =
    let place : c.loop-row.row + 1 - 1 ≡ c.loop-row.row = omega arith in
    let there = rw place at c.row.ensures.entries in
    sym (ap (λ t. cond t 1 2)
    (sym c.loop-row.invariant
    ∙ list_all-at is_zero c.args.matrix.now.rows c.loop-row.row c.row.result.now false there
    (sym c.is_zero.ensures ∙ c.if-not-is_zero.true)))

pub loop-row-preserved : goal.loop-row-preserved
loop-row-preserved c =
    let place : c.loop-row.row + 1 - 1 ≡ c.loop-row.row = omega arith in
    let there = rw place at c.row.ensures.entries in
    sym (list_all-at is_zero c.args.matrix.now.rows c.loop-row.row c.row.result.now true there
    (sym c.is_zero.ensures ∙ c.if-not-is_zero.false)) ∙ c.loop-row.invariant

pub returns : goal.returns
returns c =
    let past : length c.args.matrix.now.rows ≤ c.loop-row.row =
    omega (arith, c.rows-row-end.ensures, c.loop-row-test.false) in
    sym (ap (λ t. cond t 1 2)
    (sym c.loop-row.invariant ∙ list_all-end is_zero c.args.matrix.now.rows c.loop-row.row past))
