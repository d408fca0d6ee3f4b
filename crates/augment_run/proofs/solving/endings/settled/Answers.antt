use Rattle.std.proofs.Common.{◌≡◌, ◌<◌, refl, arith}
use Rattle.std.proofs.lemmas.Bool.{false≢true}
use Rattle.fold_theory.specs.Programs.{link_miss, link_rests}
use Rattle.phase_one.specs.Started.{lists}
use Rattle.augment_run.proofs.SolveLaws.{met_at_once, begun_counted}
use Rattle.augment_run.proofs.solving.endings.settled.Goals as goal

pub closed-requires-clause-met : goal.closed-requires-clause-met
closed-requires-clause-met g c = λ _ _.
    let p = c.args.program.now in
    let miss = link_miss p (link_rests p c.args.point) in
    let few : 0 < miss → ⊥ = λ some. false≢true (c.if-not-counted.ensures.1 some) in
    let none : miss ≡ 0 = omega (arith, few) in
    met_at_once p c.n.ensures.program c.args.plan.now (lists c.args.traces.items) c.args.point c.requires.all none

pub run_phase-requires-clause-begun : goal.run_phase-requires-clause-begun
run_phase-requires-clause-begun g c = λ _ _.
    let p = c.args.program.now in
    let some : 0 < link_miss p (link_rests p c.args.point) = c.if-not-counted.ensures.0 refl in
    (c.args.point, begun_counted p c.args.plan.now (lists c.args.traces.items) c.args.point c.requires.all some)

pub run_phase-requires-clause-start : goal.run_phase-requires-clause-start
run_phase-requires-clause-start g c = λ _ _. c.requires.all.start

pub after_counted-requires-clause-missed : goal.after_counted-requires-clause-missed
after_counted-requires-clause-missed g c = λ _ _.
    let p = c.args.program.now in
    let some : 0 < link_miss p (link_rests p c.args.point) = c.if-not-counted.ensures.0 refl in
    record { settled = c.args.point; stage = c.requires.all; misses = some; ended = c.in_ok-last.ensures.ended }
