use Rattle.std.proofs.Common.{arith, ◌≡◌, ◌+◌, ◌-◌, ◌∙◌, sym, true, false}
use Rattle.lattice_theory.specs.Vectors.{same}
use Rattle.complete_lists.proofs.ScanLaws.{list_any-at}
use Rattle.complete_lists.proofs.completeness.is_listed.Goals as goal

pub returns-then-is_same : goal.returns-then-is_same
returns-then-is_same c =
    let place : c.loop-row.row + 1 - 1 ≡ c.loop-row.row = omega arith in
    let there = rw place at c.row.ensures.entries in
    sym (list_any-at (λ u. same u c.args.z.now) c.args.basis.now.rows c.loop-row.row c.row.result.now true there
    (sym c.is_same.ensures ∙ c.if-is_same.true)) ∙ c.loop-row.invariant

pub loop-row-preserved : goal.loop-row-preserved
loop-row-preserved c =
    let place : c.loop-row.row + 1 - 1 ≡ c.loop-row.row = omega arith in
    let there = rw place at c.row.ensures.entries in
    sym (list_any-at (λ u. same u c.args.z.now) c.args.basis.now.rows c.loop-row.row c.row.result.now false there
    (sym c.is_same.ensures ∙ c.if-is_same.false)) ∙ c.loop-row.invariant
