use Rattle.std.proofs.Common.{arith, ◌≡◌, ◌<◌, ◌≤◌, ◌∙◌, sym, ap, length, true, false, length-take}
use Rattle.std.specs.List.{list_any}
use Rattle.std.proofs.lemmas.List.Sorted.{list_any-IsPermutation}
use Rattle.criterion_laws.specs.Prefixes.{is_below_in}
use Rattle.int_vectors.specs.Signs.{has_places}
use Rattle.complete_lists.specs.declared.ranked.Ranked.{Ranked}
use Rattle.complete_lists.specs.Ranks.{rows_in, first_signs}
use Rattle.complete_lists.specs.Searches.{Search}
use Rattle.complete_lists.proofs.ScanLaws.{list_any-at}
use Rattle.complete_lists.proofs.ClashLaws.{prefix-test}
use Rattle.complete_lists.proofs.RankLaws.{row-there, width-there}
use Rattle.complete_lists.proofs.PlaceLaws.{signs-there, missing-place}
use Rattle.complete_lists.proofs.clashes.Settlers.has_below.Goals as goal

pub loop-i-init : goal.loop-i-init
loop-i-init c =
    let z = c.args.z.now in
    sym (list_any-IsPermutation (is_below_in (length z) z) c.self.inside.basis.now.rows
    (rows_in c.self.inside.ranked.items) c.self.invariant.order)

pub slice_bounds-e-end : goal.slice_bounds-e-end
slice_bounds-e-end c =
    let ranked = c.self.inside.ranked.items in
    let row = c.as_slice-row.result.now in
    let low : c.loop-i.i < length ranked = omega (arith, c.loop-i-test.true, c.len-i-end.ensures) in
    let read = c.as_slice-row.ensures.value ∙ ap (λ (r : Ranked). r.row.items) c.index.ensures in
    let width = width-there ranked c.loop-i.i c.index.result.now row low read c.self.inside.basis.now.cols
    c.self.invariant.widths in
    let cols = ap (λ (s : Search). s.basis.cols) c.self.view_is in
    omega (arith, width, cols, c.requires.within, length-take (length c.args.z.now) row)

pub lies_below-requires : goal.lies_below-requires
lies_below-requires c =
    let ranked = c.self.inside.ranked.items in
    let row = c.as_slice-row.result.now in
    let low : c.loop-i.i < length ranked = omega (arith, c.loop-i-test.true, c.len-i-end.ensures) in
    let read = c.as_slice-row.ensures.value ∙ ap (λ (r : Ranked). r.row.items) c.index.ensures in
    let width = width-there ranked c.loop-i.i c.index.result.now row low read c.self.inside.basis.now.cols
    c.self.invariant.widths in
    let cols = ap (λ (s : Search). s.basis.cols) c.self.view_is in
    omega (arith, width, cols, c.requires.within, length-take (length c.args.z.now) row)

pub returns-then-lies_below : goal.returns-then-lies_below
returns-then-lies_below c =
    let z = c.args.z.now in
    let ranked = c.self.inside.ranked.items in
    let row = c.as_slice-row.result.now in
    let low : c.loop-i.i < length ranked = omega (arith, c.loop-i-test.true, c.len-i-end.ensures) in
    let read = c.as_slice-row.ensures.value ∙ ap (λ (r : Ranked). r.row.items) c.index.ensures in
    let there = row-there ranked c.loop-i.i c.index.result.now row low read in
    sym (list_any-at (is_below_in (length z) z) (rows_in ranked) c.loop-i.i row true there
    (prefix-test z row ∙ sym c.lies_below.ensures ∙ c.if-lies_below.true)) ∙ c.loop-i.invariant
    ∙ ap (λ (s : Search). list_any (is_below_in (length z) z) s.basis.rows) c.self.view_is

pub loop-i-preserved : goal.loop-i-preserved
loop-i-preserved c =
    let z = c.args.z.now in
    let ranked = c.self.inside.ranked.items in
    let row = c.as_slice-row.result.now in
    let low : c.loop-i.i < length ranked = omega (arith, c.loop-i-test.true, c.len-i-end.ensures) in
    let read = c.as_slice-row.ensures.value ∙ ap (λ (r : Ranked). r.row.items) c.index.ensures in
    let there = row-there ranked c.loop-i.i c.index.result.now row low read in
    sym (list_any-at (is_below_in (length z) z) (rows_in ranked) c.loop-i.i row false there
    (prefix-test z row ∙ sym c.lies_below.ensures ∙ c.if-lies_below.false)) ∙ c.loop-i.invariant

pub loop-i-preserved-then-not-has_places : goal.loop-i-preserved-then-not-has_places
loop-i-preserved-then-not-has_places c =
    let z = c.args.z.now in
    let places = c.self.inside.places in
    let ranked = c.self.inside.ranked.items in
    let row = c.as_slice-row.result.now in
    let low : c.loop-i.i < length ranked = omega (arith, c.loop-i-test.true, c.len-i-end.ensures) in
    let read = c.as_slice-row.ensures.value ∙ ap (λ (r : Ranked). r.row.items) c.index.ensures in
    let there = row-there ranked c.loop-i.i c.index.result.now row low read in
    let signs = c.index-in-loop-i.ensures
    ∙ signs-there places (rows_in ranked) c.self.inside.signs.items c.loop-i.i row c.index-in-loop-i.result.now
    c.self.invariant.ranked_signs there in
    let missing : has_places (first_signs places row) (first_signs places z) ≡ false =
    sym (λ k. has_places (signs k) (c.signs_of-shared.ensures k)) ∙ sym c.has_places.ensures
    ∙ c.if-not-has_places.true in
    let first : places ≤ length z =
    omega (arith, c.self.invariant.first, ap (λ (s : Search). s.cols) c.self.view_is, c.requires.behind) in
    sym (list_any-at (is_below_in (length z) z) (rows_in ranked) c.loop-i.i row false there
    (missing-place places z row first missing)) ∙ c.loop-i.invariant
