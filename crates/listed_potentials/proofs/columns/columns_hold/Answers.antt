use Rattle.std.proofs.Common.{arith, ◌≤◌, ◌∙◌, sym, ap, map, length, true, false, ℤ, Option, Vec, Global}
use Rattle.listed_sums.specs.Places.{vectors_of}
use Rattle.listed_sums.proofs.RowLaws.{length-vectors_of}
use Rattle.listed_potentials.specs.Columns.{column_holds}
use Rattle.listed_potentials.proofs.RowLaws.{columns-at, columns-end}
use Rattle.listed_potentials.proofs.columns.columns_hold.Goals as goal

pub returns-then-not-column_holds : goal.returns-then-not-column_holds
returns-then-not-column_holds c =
    let changes = map (λ (v : Vec (Option ℤ) Global). v.items) c.args.changes.now in
    let rows = c.args.potentials.now.rows in
    let test = ap (λ ps. column_holds changes ps c.loop-place.place rows)
    (sym (c.deref.ensures.value ∙ c.in_ok-places.ensures.places)) ∙ sym c.column_holds.ensures
    ∙ c.if-not-column_holds.true in
    sym (columns-at changes (vectors_of c.args.sums.now.rows) rows c.loop-place.place c.vector_of.result.now false
    c.vector_of.ensures.sum test) ∙ c.loop-place.invariant

pub loop-place-preserved : goal.loop-place-preserved
loop-place-preserved c =
    let changes = map (λ (v : Vec (Option ℤ) Global). v.items) c.args.changes.now in
    let rows = c.args.potentials.now.rows in
    let test = ap (λ ps. column_holds changes ps c.loop-place.place rows)
    (sym (c.deref.ensures.value ∙ c.in_ok-places.ensures.places)) ∙ sym c.column_holds.ensures
    ∙ c.if-not-column_holds.false in
    sym (columns-at changes (vectors_of c.args.sums.now.rows) rows c.loop-place.place c.vector_of.result.now true
    c.vector_of.ensures.sum test) ∙ c.loop-place.invariant

pub returns : goal.returns
returns c =
    let changes = map (λ (v : Vec (Option ℤ) Global). v.items) c.args.changes.now in
    let past : length (vectors_of c.args.sums.now.rows) ≤ c.loop-place.place =
    omega (arith, length-vectors_of c.args.sums.now.rows, c.rows-place-end.ensures, c.loop-place-test.false) in
    sym (columns-end changes (vectors_of c.args.sums.now.rows) c.args.potentials.now.rows c.loop-place.place past)
    ∙ c.loop-place.invariant
