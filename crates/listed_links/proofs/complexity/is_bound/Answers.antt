use Rattle.std.proofs.Common.{arith, ◌≡◌, ◌≤◌, ◌+◌, ◌-◌, ◌∙◌, sym, ap, length, drop, true, false}
use Rattle.std.specs.List.{list_all}
use Rattle.complete_lists.proofs.ScanLaws.{list_all-at, list_all-end}
use Rattle.listed_links.specs.Bounds.{is_bounded_at}
use Rattle.listed_links.proofs.BoundLaws.{below_least, at_least}
use Rattle.listed_links.proofs.complexity.is_bound.Goals as goal

pub returns-then-bound-least_complexity : goal.returns-then-bound-least_complexity
returns-then-bound-least_complexity c =
    below_least c.args.phase c.args.relations.now c.args.matrix.now c.args.basis.now.rows c.args.bound
    c.least_complexity.result c.least_complexity.ensures c.if-bound-least_complexity.true

pub returns-then-not-is_bounded : goal.returns-then-not-is_bounded
returns-then-not-is_bounded c =
    let place : c.loop-row.row + 1 - 1 ≡ c.loop-row.row = omega arith in
    let there = rw place at c.row.ensures.entries in
    let test = is_bounded_at c.args.phase c.args.relations.now c.args.matrix.now.cols c.args.bound in
    let heavy = ap (λ k. is_bounded_at c.args.phase c.args.relations.now k c.args.bound c.row.result.now)
    (sym c.cols.ensures.cols) ∙ sym c.is_bounded.ensures ∙ c.if-not-is_bounded.true in
    at_least c.args.phase c.args.relations.now c.args.matrix.now c.args.basis.now.rows c.args.bound
    c.least_complexity.result false c.least_complexity.ensures c.if-bound-least_complexity.false
    (sym c.loop-row.invariant
    ∙ list_all-at test c.args.basis.now.rows c.loop-row.row c.row.result.now false there heavy)

pub loop-row-preserved : goal.loop-row-preserved
loop-row-preserved c =
    let place : c.loop-row.row + 1 - 1 ≡ c.loop-row.row = omega arith in
    let there = rw place at c.row.ensures.entries in
    let test = is_bounded_at c.args.phase c.args.relations.now c.args.matrix.now.cols c.args.bound in
    let light = ap (λ k. is_bounded_at c.args.phase c.args.relations.now k c.args.bound c.row.result.now)
    (sym c.cols.ensures.cols) ∙ sym c.is_bounded.ensures ∙ c.if-not-is_bounded.false in
    sym (list_all-at test c.args.basis.now.rows c.loop-row.row c.row.result.now true there light) ∙ c.loop-row.invariant

pub returns : goal.returns
returns c =
    let past : length c.args.basis.now.rows ≤ c.loop-row.row =
    omega (arith, c.rows-row-end.ensures, c.loop-row-test.false) in
    let test = is_bounded_at c.args.phase c.args.relations.now c.args.matrix.now.cols c.args.bound in
    at_least c.args.phase c.args.relations.now c.args.matrix.now c.args.basis.now.rows c.args.bound
    c.least_complexity.result true c.least_complexity.ensures c.if-bound-least_complexity.false
    (sym c.loop-row.invariant ∙ list_all-end test c.args.basis.now.rows c.loop-row.row past)
