use Rattle.std.proofs.Common.{arith, ◌≡◌, ◌+◌, ◌-◌, ◌∙◌, ap, map}
use Rattle.std.proofs.lemmas.List.{take_all}
use Rattle.complete_lists.specs.Ranks.{first_signs}
use Rattle.complete_lists.proofs.PlaceLaws.{signs-more}
use Rattle.complete_lists.proofs.clashes.listed_signs.Goals as goal

pub loop-place-preserved : goal.loop-place-preserved
loop-place-preserved c =
    let place : c.loop-place.place + 1 - 1 ≡ c.loop-place.place = omega arith in
    let there = rw place at c.row-row.ensures.entries in
    signs-more c.args.places c.args.basis.now.rows c.loop-place.signs.items c.push.new.self.items c.loop-place.place
    c.row-row.result.now c.signs_of.result c.loop-place.invariant there c.signs_of.ensures c.in_ok-push.ensures.items

pub returns : goal.returns
returns c =
    c.loop-place.invariant
    ∙ ap (map (first_signs c.args.places))
    (take_all c.loop-place.place c.args.basis.now.rows (omega
    (arith, c.rows-place-end.ensures, c.loop-place-test.false)))
