use Rattle.std.proofs.Common.{arith, ◌≡◌, ◌+◌, ◌-◌, ◌∙◌, sym, subst, true, false}
use Rattle.lattice_theory.specs.BasisLimits.{IsNarrow}
use Rattle.lattice_laws.proofs.Places.{slice_get-All}
use Rattle.complete_lists.specs.Searches.{Search, FitsRows}
use Rattle.complete_lists.proofs.ClashLaws.{clashes-at}
use Rattle.complete_lists.proofs.clashes.clashes_settle.Goals as goal

pub returns-then-not-branch : goal.returns-then-not-branch
returns-then-not-branch c =
    let place : c.loop-row.row + 1 - 1 ≡ c.loop-row.row = omega arith in
    let there = rw place at c.row.ensures.entries in
    let settled = rw c.in_ok-settlers.ensures at c.in_ok-row_settles.ensures in
    sym (clashes-at c.args.cols c.args.basis.now.rows c.args.basis.now.rows c.loop-row.row c.row.result.now false there
    (sym settled ∙ c.if-not-branch.true)) ∙ c.loop-row.invariant

pub loop-row-preserved : goal.loop-row-preserved
loop-row-preserved c =
    let place : c.loop-row.row + 1 - 1 ≡ c.loop-row.row = omega arith in
    let there = rw place at c.row.ensures.entries in
    let settled = rw c.in_ok-settlers.ensures at c.in_ok-row_settles.ensures in
    sym (clashes-at c.args.cols c.args.basis.now.rows c.args.basis.now.rows c.loop-row.row c.row.result.now true there
    (sym settled ∙ c.if-not-branch.false)) ∙ c.loop-row.invariant

pub row_settles-requires : goal.row_settles-requires
row_settles-requires c =
    subst (λ (s : Search). FitsRows s.basis c.row.result.now) (sym c.in_ok-settlers.ensures) (record {
      narrow = slice_get-All IsNarrow c.args.basis.now.rows (c.loop-row.row + 1 - 1) c.row.result.now
          c.row.ensures.entries
          c.requires;
      width = c.row.ensures.width;
    })
