use Rattle.std.proofs.Common.{arith, ◌≡◌, ◌+◌, ◌-◌, ◌∙◌, sym, ap, subst, true, false, Some, slice_get}
use Rattle.lattice_theory.specs.BasisLimits.{IsNarrow}
use Rattle.lattice_laws.proofs.Places.{slice_get-All}
use Rattle.criterion_laws.specs.Prefixes.{clash_settles}
use Rattle.complete_lists.specs.Searches.{Search, FitsRows}
use Rattle.complete_lists.proofs.ScanLaws.{list_all-at}
use Rattle.complete_lists.proofs.PlaceLaws.{signs-there}
use Rattle.complete_lists.proofs.clashes.Settlers.signed_settles.Goals as goal

pub returns-then-not-branch : goal.returns-then-not-branch
returns-then-not-branch c =
    let place : c.loop-row.row + 1 - 1 ≡ c.loop-row.row = omega arith in
    let there : slice_get c.args.self.now.basis.rows c.loop-row.row ≡ Some c.row.result.now =
    subst (λ (s : Search). slice_get s.basis.rows c.loop-row.row ≡ Some c.row.result.now) c.self.view_is
    (rw place at c.row.ensures.entries) in
    sym (list_all-at (clash_settles c.args.self.now.cols c.args.self.now.basis.rows c.args.f.now)
    c.args.self.now.basis.rows c.loop-row.row c.row.result.now false there
    (sym c.in_ok-clash_settles.ensures ∙ c.if-not-branch.true)) ∙ c.loop-row.invariant

pub loop-row-preserved : goal.loop-row-preserved
loop-row-preserved c =
    let place : c.loop-row.row + 1 - 1 ≡ c.loop-row.row = omega arith in
    let there : slice_get c.args.self.now.basis.rows c.loop-row.row ≡ Some c.row.result.now =
    subst (λ (s : Search). slice_get s.basis.rows c.loop-row.row ≡ Some c.row.result.now) c.self.view_is
    (rw place at c.row.ensures.entries) in
    sym (list_all-at (clash_settles c.args.self.now.cols c.args.self.now.basis.rows c.args.f.now)
    c.args.self.now.basis.rows c.loop-row.row c.row.result.now true there
    (sym c.in_ok-clash_settles.ensures ∙ c.if-not-branch.false)) ∙ c.loop-row.invariant

pub clash_settles-requires-clause-second : goal.clash_settles-requires-clause-second
clash_settles-requires-clause-second c =
    subst (λ (s : Search). FitsRows s.basis c.row.result.now) c.self.view_is (record {
      narrow = slice_get-All IsNarrow c.self.inside.basis.now.rows (c.loop-row.row + 1 - 1) c.row.result.now
          c.row.ensures.entries c.self.invariant.narrow;
      width = c.row.ensures.width;
    })

pub clash_settles-requires-clause-agree : goal.clash_settles-requires-clause-agree
clash_settles-requires-clause-agree c =
    let place : c.loop-row.row + 1 - 1 ≡ c.loop-row.row = omega arith in
    let there = rw place at c.row.ensures.entries in
    let cols = ap (λ (s : Search). s.basis.cols) c.self.view_is in
    let other = signs-there c.self.inside.places c.self.inside.basis.now.rows c.self.inside.listed.items
    c.loop-row.row c.row.result.now c.index.result.now c.self.invariant.listed_signs there in
    c.agreeing-start.ensures.agree c.args.f.now c.row.result.now
    (c.requires.width ∙ sym (c.row.ensures.width ∙ cols)) c.signs_of-own.ensures (c.index.ensures ∙ other)
