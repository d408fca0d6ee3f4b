use Rattle.std.proofs.Common.{arith, ◌≡◌, ◌≤◌, ◌+◌, ◌-◌, ◌∙◌, sym, ap, length, drop, true, false}
use Rattle.lattice_theory.specs.Vectors.{is_rising}
use Rattle.complete_lists.proofs.ScanLaws.{is_rising-at, is_rising-end}
use Rattle.complete_lists.proofs.completeness.is_rising.Goals as goal

pub returns-then-not-is_less : goal.returns-then-not-is_less
returns-then-not-is_less c =
    let place : c.loop-row.row + 1 - 1 ≡ c.loop-row.row - 1 + 1 = omega (arith, c.loop-row.invariant.from) in
    let next = rw place at c.row-in-loop-row.ensures.entries in
    sym (is_rising-at c.args.basis.now.rows (c.loop-row.row - 1) c.row.result.now c.row-in-loop-row.result.now false
    c.row.ensures.entries next
    (sym c.is_less.ensures ∙ c.if-not-is_less.true)) ∙ c.loop-row.invariant.rest

pub loop-row-preserved : goal.loop-row-preserved
loop-row-preserved c =
    let place : c.loop-row.row + 1 - 1 ≡ c.loop-row.row - 1 + 1 = omega (arith, c.loop-row.invariant.from) in
    let next = rw place at c.row-in-loop-row.ensures.entries in
    record {
      from = omega arith;
      rest = ap (λ i. is_rising (drop i c.args.basis.now.rows)) place
          ∙ sym (is_rising-at c.args.basis.now.rows (c.loop-row.row - 1) c.row.result.now c.row-in-loop-row.result.now
          true c.row.ensures.entries next
          (sym c.is_less.ensures ∙ c.if-not-is_less.false)) ∙ c.loop-row.invariant.rest;
    }

pub returns : goal.returns
returns c =
    let past : length c.args.basis.now.rows ≤ c.loop-row.row - 1 + 1 =
    omega (arith, c.rows-row-end.ensures, c.loop-row-test.false, c.loop-row.invariant.from) in
    sym (is_rising-end c.args.basis.now.rows (c.loop-row.row - 1) past) ∙ c.loop-row.invariant.rest
