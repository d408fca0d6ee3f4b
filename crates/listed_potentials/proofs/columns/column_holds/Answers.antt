use Rattle.std.proofs.Common.{arith, ◌<◌, ◌+◌, ◌^◌, ◌∙◌, sym, map, length, true, false, ℤ, Option, Vec, Global}
use Rattle.lattice_laws.proofs.Places.{slice_get-All}
use Rattle.listed_potentials.specs.Sizes.{AreSmall}
use Rattle.listed_potentials.specs.Moves.{row_holds}
use Rattle.listed_potentials.proofs.RowLaws.{column-at, image-read, cell-read}
use Rattle.listed_potentials.proofs.columns.column_holds.Goals as goal

pub row_holds-requires-clause-cells : goal.row_holds-requires-clause-cells
row_holds-requires-clause-cells c =
    slice_get-All (AreSmall (2 ^ 124)) c.args.potentials.now.rows (c.loop-layer.layer + 1) c.row-next.result.now
    c.row-next.ensures.cells c.requires.cells

pub returns-then-not-row_holds : goal.returns-then-not-row_holds
returns-then-not-row_holds c =
    let items = λ (v : Vec (Option ℤ) Global). v.items in
    let layer = c.loop-layer.layer in
    let low : layer < length c.args.potentials.now.rows = omega (arith, c.requires.layers, c.loop-layer-test.true) in
    let read = cell-read c.args.potentials.now.rows layer c.args.at c.get-here.result low c.get-here.ensures in
    let changes = image-read items c.args.changes.now layer c.index-changes-layer.result c.loop-layer-test.true
    c.index-changes-layer.is in
    let test = (λ i. row_holds (read.2 i) (sym c.deref.ensures.value i) c.args.places.now c.row-next.result.now)
    ∙ sym c.row_holds.ensures ∙ c.if-not-row_holds.true in
    sym (column-at (map items c.args.changes.now) c.args.places.now c.args.at c.args.potentials.now.rows layer
    c.index-changes-layer.result.items read.0 c.row-next.result.now false changes read.1 c.row-next.ensures.cells test)
    ∙ c.loop-layer.invariant

pub loop-layer-preserved : goal.loop-layer-preserved
loop-layer-preserved c =
    let items = λ (v : Vec (Option ℤ) Global). v.items in
    let layer = c.loop-layer.layer in
    let low : layer < length c.args.potentials.now.rows = omega (arith, c.requires.layers, c.loop-layer-test.true) in
    let read = cell-read c.args.potentials.now.rows layer c.args.at c.get-here.result low c.get-here.ensures in
    let changes = image-read items c.args.changes.now layer c.index-changes-layer.result c.loop-layer-test.true
    c.index-changes-layer.is in
    let test = (λ i. row_holds (read.2 i) (sym c.deref.ensures.value i) c.args.places.now c.row-next.result.now)
    ∙ sym c.row_holds.ensures ∙ c.if-not-row_holds.false in
    sym (column-at (map items c.args.changes.now) c.args.places.now c.args.at c.args.potentials.now.rows layer
    c.index-changes-layer.result.items read.0 c.row-next.result.now true changes read.1 c.row-next.ensures.cells test)
    ∙ c.loop-layer.invariant
