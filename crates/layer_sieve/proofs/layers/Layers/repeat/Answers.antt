use Rattle.std.proofs.Common.{◌≡◌, ◌<◌, ◌-◌, arith, sym, ◌∙◌, ap, length, slice_get, ◌++◌, ◌∷◌, []}
use Rattle.std.proofs.lemmas.List.{length-map, length-append}
use Rattle.layer_sieve.specs.Layers.{row_at}
use Rattle.layer_sieve.proofs.KeptLaws.{repeated}
use Rattle.layer_sieve.proofs.ReachLaws.{read_at}
use Rattle.layer_sieve.proofs.layers.Layers.repeat.Goals as goal

pub returns-clause-again : goal.returns-clause-again
returns-clause-again c = λ layer there.
    let places = c.self.inside.places.items in
    let rows = c.self.inside.rows.items in
    let size = length-map places (row_at rows) in
    let sizes = ap length c.self.view_is in
    let last : c.len.result - 1 ≡ length c.args.self.now - 1 =
    omega (arith, c.len.ensures, c.self.inside.places.ok.0, size, sizes) in
    let low : c.len.result - 1 < length places =
    omega (arith, c.len.ensures, c.self.inside.places.ok.0, c.self.invariant.some) in
    let place = read_at places (c.len.result - 1) c.index-place.result.now c.index-place.result.now low
    (sym c.index-place.ensures) in
    (repeated rows places c.push.new.self.items (c.len.result - 1) c.index-place.result.now place
    c.in_ok-push.ensures.items c.self.invariant).1 layer
    (ap (λ ls. slice_get ls (c.len.result - 1)) c.self.view_is ∙ ap (slice_get c.args.self.now) last ∙ there)
    ∙ ap (λ ls. ls ++ layer ∷ []) c.self.view_is

pub returns-clause-count : goal.returns-clause-count
returns-clause-count c =
    let places = c.self.inside.places.items in
    let rows = c.self.inside.rows.items in
    let more = length-append places (c.index-place.result.now ∷ []) in
    omega (
      arith,
      length-map places (row_at rows),
      length-map c.push.new.self.items (row_at rows),
      ap length c.self.view_is,
      ap length c.in_ok-push.ensures.items,
      more,
    )
