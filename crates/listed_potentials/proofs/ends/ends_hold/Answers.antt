use Rattle.std.proofs.Common.{arith, ◌≡◌, ◌≤◌, ◌<◌, ◌∙◌, sym, ap, length, get_or, true, false, None}
use Rattle.std.proofs.lemmas.Option.{slice_get-get_or}
use Rattle.lattice_theory.specs.Vectors.{sub}
use Rattle.lattice_theory.specs.Matrices.{product}
use Rattle.fold_theory.specs.Programs.{link_rests, link_miss}
use Rattle.run_theory.specs.Walks.{end_cost, end_at}
use Rattle.run_theory.specs.Checker.{at_most}
use Rattle.lattice_laws.proofs.Places.{slice_get-All}
use Rattle.lattice_laws.proofs.Multiples.{scale_once}
use Rattle.listed_sums.specs.Places.{vectors_of, IsModest}
use Rattle.listed_sums.proofs.RowLaws.{length-vectors_of}
use Rattle.listed_potentials.proofs.RowLaws.{zip-at, zip-end}
use Rattle.listed_potentials.proofs.ends.ends_hold.Goals as goal
use Rattle.listed_potentials.proofs.ends.ends_hold.Goals.{After-is_at_most}
use Rattle.listed_potentials.proofs.EndLaws.{modest_step}

pub missed_after-after-requires-clause-rests : goal.missed_after-after-requires-clause-rests
missed_after-after-requires-clause-rests c =
    ap length c.deref.ensures.value ∙ c.in_ok-rests.ensures.count

pub missed_after-after-requires-clause-step : goal.missed_after-after-requires-clause-step
missed_after-after-requires-clause-step c =
    modest_step c.args.program.now c.vector_of.result.now c.link.ensures.narrow
    (omega (arith, c.vector_of.ensures.width, c.requires.sums, c.t.ensures.to, c.t.ensures.cols))
    (slice_get-All IsModest (vectors_of c.args.sums.now.rows) c.loop-place.place c.vector_of.result.now
    c.vector_of.ensures.sum c.requires.modest)

-- the place is one of the last layer
inside : (c : After-is_at_most) → c.loop-place.place < length c.args.row.now
inside c = omega (arith, c.requires.width, c.rows-place-end.ensures, c.loop-place-test.true)

-- and its potential is tested against what the end at its sum costs
tested : (c : After-is_at_most) →
    at_most (get_or c.args.row.now c.loop-place.place None)
    (end_cost c.args.program.now c.args.phase (link_rests c.args.program.now c.args.point.now)
    (product c.args.program.now.link c.vector_of.result.now)) ≡ c.is_at_most.result
tested c =
    let p = c.args.program.now in
    let rests = link_rests p c.args.point.now in
    let w = c.vector_of.result.now in
    let cost : end_cost p c.args.phase rests (product p.link w) ≡ c.end.result =
    (λ i. end_at c.args.phase (sym c.link_residual-before.ensures.residual i)
    (link_miss p (sub (sym (c.deref.ensures.value ∙ c.in_ok-rests.ensures.rests) i) (product p.link w))))
    ∙ ap (λ image. end_at c.args.phase c.link_residual-before.result
    (link_miss p (sub c.deref.result.now image))) (sym (scale_once (product p.link w)))
    ∙ ap (end_at c.args.phase c.link_residual-before.result) (sym c.missed_after-after.ensures.missed)
    ∙ sym c.end.ensures.cost in
    ap (at_most (get_or c.args.row.now c.loop-place.place None)) cost ∙ sym c.is_at_most.ensures

pub returns-then-not-is_at_most : goal.returns-then-not-is_at_most
returns-then-not-is_at_most c =
    let past = goal.at.returns-then-not-is_at_most c in
    let rests = link_rests c.args.program.now c.args.point.now in
    sym (zip-at (λ u here. at_most here (end_cost c.args.program.now c.args.phase rests
    (product c.args.program.now.link u))) (vectors_of c.args.sums.now.rows) c.args.row.now c.loop-place.place
    c.vector_of.result.now (get_or c.args.row.now c.loop-place.place None) false c.vector_of.ensures.sum
    (slice_get-get_or c.args.row.now c.loop-place.place None (inside past.After-is_at_most))
    (tested past.After-is_at_most ∙ c.if-not-is_at_most.true)) ∙ c.loop-place.invariant

pub loop-place-preserved : goal.loop-place-preserved
loop-place-preserved c =
    let rests = link_rests c.args.program.now c.args.point.now in
    sym (zip-at (λ u here. at_most here (end_cost c.args.program.now c.args.phase rests
    (product c.args.program.now.link u))) (vectors_of c.args.sums.now.rows) c.args.row.now c.loop-place.place
    c.vector_of.result.now (get_or c.args.row.now c.loop-place.place None) true c.vector_of.ensures.sum
    (slice_get-get_or c.args.row.now c.loop-place.place None (inside c.before))
    (tested c.before ∙ c.if-not-is_at_most.false)) ∙ c.loop-place.invariant

pub returns : goal.returns
returns c =
    let p = c.args.program.now in
    let rests = link_rests p c.args.point.now in
    let zs = vectors_of c.args.sums.now.rows in
    let past : length zs ≤ c.loop-place.place =
    omega (arith, length-vectors_of c.args.sums.now.rows, c.rows-place-end.ensures, c.loop-place-test.false) in
    let over : length c.args.row.now ≤ c.loop-place.place =
    omega (arith, c.requires.width, c.rows-place-end.ensures, c.loop-place-test.false) in
    sym (zip-end (λ u here. at_most here (end_cost p c.args.phase rests (product p.link u))) zs c.args.row.now
    c.loop-place.place past over) ∙ c.loop-place.invariant
