use Rattle.std.proofs.Common.{◌∙◌}
use Rattle.listed_sums.specs.Places.{vectors_of}
use Rattle.listed_potentials.proofs.RowLaws.{zero-there, zero-nowhere, widths-of}
use Rattle.listed_potentials.proofs.layers.starts_at_zero.Goals as goal

pub returns-in-Some : goal.returns-in-Some
returns-in-Some c =
    let zs = vectors_of c.args.sums.now.rows in
    let rows = c.args.potentials.now.rows in
    c.is_at_most.ensures
    ∙ zero-there c.args.program.now zs rows c.in-Some.place c.args.zero.now c.get.result c.requires.zero
    (widths-of c.args.sums.now.rows rows _ c.cols.ensures.each_row (c.cols.ensures.cols ∙ c.requires.cols))
    c.requires.layers c.in-Some.ensures.place c.get.ensures

pub returns-in-None : goal.returns-in-None
returns-in-None c =
    let zs = vectors_of c.args.sums.now.rows in
    let rows = c.args.potentials.now.rows in
    zero-nowhere c.args.program.now zs rows c.args.zero.now c.requires.zero
    (widths-of c.args.sums.now.rows rows _ c.cols.ensures.each_row (c.cols.ensures.cols ∙ c.requires.cols))
    c.in-None.ensures.place
