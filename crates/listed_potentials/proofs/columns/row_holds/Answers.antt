use Rattle.std.proofs.Common.{arith, ◌<◌, ◌∙◌, sym, ap, length, None, true, false}
use Rattle.lattice_laws.proofs.Places.{if_some}
use Rattle.listed_potentials.specs.Moves.{there}
use Rattle.listed_potentials.proofs.RowLaws.{moves-at, leads_to, nowhere}
use Rattle.listed_potentials.proofs.columns.row_holds.Goals as goal

pub loop-at-preserved-in_default : goal.loop-at-preserved-in_default
loop-at-preserved-in_default c =
    let low_too : c.loop-at.at < length c.args.places.now = omega (arith, c.requires.same, c.loop-at-test.true) in
    sym (moves-at c.args.here c.args.changes.now c.args.places.now c.args.next.now c.loop-at.at None true
    c.loop-at-test.true low_too (ap (there c.args.next.now) c.in_default.is) (nowhere c.args.here _))
    ∙ c.loop-at.invariant

pub returns-then-not-move_holds : goal.returns-then-not-move_holds
returns-then-not-move_holds c =
    let low_too : c.loop-at.at < length c.args.places.now = omega (arith, c.requires.same, c.loop-at-test.true) in
    let inside = if_some (λ at. at < length c.args.places.now) _ c.in-Some.place c.in-Some.is
    (c.requires.inside c.loop-at.at None low_too) in
    let low : c.in-Some.place < length c.args.next.now = omega (arith, inside, c.requires.width) in
    sym (moves-at c.args.here c.args.changes.now c.args.places.now c.args.next.now c.loop-at.at _ false
    c.loop-at-test.true low_too
    (leads_to c.args.places.now c.args.next.now c.loop-at.at c.in-Some.place c.in-Some.is low)
    (sym c.move_holds.ensures ∙ c.if-not-move_holds.true))
    ∙ c.loop-at.invariant

pub loop-at-preserved : goal.loop-at-preserved
loop-at-preserved c =
    let low_too : c.loop-at.at < length c.args.places.now = omega (arith, c.requires.same, c.loop-at-test.true) in
    let inside = if_some (λ at. at < length c.args.places.now) _ c.in-Some.place c.in-Some.is
    (c.requires.inside c.loop-at.at None low_too) in
    let low : c.in-Some.place < length c.args.next.now = omega (arith, inside, c.requires.width) in
    sym (moves-at c.args.here c.args.changes.now c.args.places.now c.args.next.now c.loop-at.at _ true
    c.loop-at-test.true low_too
    (leads_to c.args.places.now c.args.next.now c.loop-at.at c.in-Some.place c.in-Some.is low)
    (sym c.move_holds.ensures ∙ c.if-not-move_holds.false))
    ∙ c.loop-at.invariant
