use Rattle.std.proofs.Common.{◌<◌, ◌∙◌, [], sym, length, arith, get_or}
use Rattle.std.proofs.lemmas.Option.{slice_get-get_or}
use Rattle.augment_run.proofs.RowLists.{flat_more, flat_all, cells_fit, table_rows-all}
use Rattle.augment_run.proofs.certifying.potential_rows.Goals as goal

pub loop-layer-init : goal.loop-layer-init
loop-layer-init c = c.new-cells.ensures.items

pub loop-layer-preserved : goal.loop-layer-preserved
loop-layer-preserved c =
    let rows = c.args.potentials.now.rows in
    let row = get_or rows c.loop-layer.layer [] in
    let low : c.loop-layer.layer < length rows = omega (arith, c.loop-layer-test.true, c.requires.height) in
    c.in_ok-add_cells.ensures
    ∙ flat_more rows c.loop-layer.layer row c.loop-layer.cells.items (slice_get-get_or rows c.loop-layer.layer [] low)
    c.loop-layer.invariant

pub new-requires : goal.new-requires
new-requires c =
    let t = c.args.potentials.now in
    let all = flat_all t.rows c.loop-layer.layer c.loop-layer.cells.items
    (omega (arith, c.loop-layer-test.false, c.requires.height)) c.loop-layer.invariant in
    cells_fit c.args.sums c.args.layers t.rows c.loop-layer.cells.items (sym c.requires.height) all c.requires.each_row

pub returns : goal.returns
returns c =
    let t = c.args.potentials.now in
    let all = flat_all t.rows c.loop-layer.layer c.loop-layer.cells.items
    (omega (arith, c.loop-layer-test.false, c.requires.height)) c.loop-layer.invariant in
    let rows = table_rows-all c.args.sums c.args.layers t.rows c.loop-layer.cells.items
    (sym c.requires.height) all c.requires.each_row in
    let cols = sym c.requires.width in
    c.new.ensures ∙ (λ i. record { cols = cols i; rows = rows i })
