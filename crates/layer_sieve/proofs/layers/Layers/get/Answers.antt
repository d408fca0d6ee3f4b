use Rattle.std.proofs.Common.{◌<◌, arith, sym, ◌∙◌, ap, length, slice_get, Some}
use Rattle.std.proofs.lemmas.List.{length-map}
use Rattle.layer_sieve.specs.Layers.{row_at}
use Rattle.layer_sieve.proofs.KeptLaws.{slice_get-layers, row_at-get, place_low}
use Rattle.layer_sieve.proofs.ReachLaws.{read_at}
use Rattle.layer_sieve.proofs.layers.Layers.get.Goals as goal

pub returns : goal.returns
returns c =
    let places = c.self.inside.places.items in
    let rows = c.self.inside.rows.items in
    let low : c.args.at < length places =
    omega (arith, c.requires, ap length c.self.view_is, length-map places (row_at rows)) in
    let place = read_at places c.args.at c.index.result.now c.index.result.now low (sym c.index.ensures) in
    let inside = place_low rows places c.args.at c.index.result.now place c.self.invariant in
    let row = read_at rows c.index.result.now c.index-2.result.now c.index-2.result.now inside
    (sym c.index-2.ensures) in
    ap (λ ls. slice_get ls c.args.at) (sym c.self.view_is)
    ∙ slice_get-layers rows places c.args.at c.index.result.now place
    ∙ ap Some (row_at-get rows c.index.result.now c.index-2.result.now row ∙ sym c.deref.ensures.value)
