use Rattle.std.proofs.Common.{arith, ◌≤◌, ◌∙◌, ap, map, length, length-take}
use Rattle.std.proofs.lemmas.List.{take_all, length-map}
use Rattle.lattice_theory.specs.Vectors.{Vector}
use Rattle.lattice_laws.proofs.Places.{slice_get-All}
use Rattle.complete_lists.specs.Ranks.{rows_in, first_signs}
use Rattle.complete_lists.proofs.RankLaws.{row-there}
use Rattle.complete_lists.proofs.PlaceLaws.{signs-more}
use Rattle.complete_lists.proofs.clashes.all_signs.Goals as goal

pub loop-i-preserved : goal.loop-i-preserved
loop-i-preserved c =
    let v = c.as_slice-row.result.now in
    let there = row-there c.args.ranked.now c.loop-i.i c.index-ranked-i.result c.as_slice-row.result.now
    c.loop-i-test.true c.as_slice-row.ensures.value in
    signs-more c.args.places (rows_in c.args.ranked.now) c.loop-i.signs.items c.push.new.self.items c.loop-i.i v
    c.signs_of.result c.loop-i.invariant there c.signs_of.ensures c.in_ok-push.ensures.items

pub returns : goal.returns
returns c =
    let size = length-map c.args.ranked.now (λ r. r.row.items) in
    c.loop-i.invariant
    ∙ ap (map (first_signs c.args.places)) (take_all c.loop-i.i (rows_in c.args.ranked.now)
    (omega (arith, size, c.loop-i-test.false)))

pub slice_bounds-signs_of-end : goal.slice_bounds-signs_of-end
slice_bounds-signs_of-end c =
    let there = row-there c.args.ranked.now c.loop-i.i c.index-ranked-i.result c.as_slice-row.result.now
    c.loop-i-test.true c.as_slice-row.ensures.value in
    let long = slice_get-All (λ (v : Vector). c.args.places ≤ length v) (rows_in c.args.ranked.now) c.loop-i.i
    c.as_slice-row.result.now there c.requires in
    omega (arith, long, length-take c.args.places c.as_slice-row.result.now)
