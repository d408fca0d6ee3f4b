use Rattle.std.proofs.Common.{ap, sym, ◌∙◌, subst}
use Rattle.round_core.specs.declared.parts.Fate.TheVariants.{Open}
use Rattle.board_laws.specs.declared.views.View.{View}
use Rattle.board_laws.specs.Views.{HasFate, seeing_view}
use Rattle.round_workers.specs.Workers.{WorkerValue, HasTried}
use Rattle.round_workers.proofs.Known.{found_key, beaten_outdone, IsOutdone-later, answer_found, answer_beaten}
use Rattle.round_workers.proofs.Known.{has_tried}
use Rattle.round_workers.proofs.workers.searched.Goals as goal

pub best_step-requires-clause-length : goal.best_step-requires-clause-length
best_step-requires-clause-length g c = (c.requires.gains.lengths c.args.k).0 c.requires.length

pub reported-seat-requires-clause-fate : goal.reported-seat-requires-clause-fate
reported-seat-requires-clause-fate g c =
    subst (λ (v : View). HasFate c.args.k Open v.owned) (sym c.shows_best-at_best.ensures.later.view)
    (subst (λ (v : View). HasFate c.args.k Open v.owned) (sym c.in_ok-answer.ensures.kept.view)
    (subst (λ (w : WorkerValue). HasFate c.args.k Open w.held.view.owned) (sym c.worker.view_is) c.requires.fate))

pub reported-seat-requires-clause-key : goal.reported-seat-requires-clause-key
reported-seat-requires-clause-key g c s is =
    let f = c.args.task.now.fold.now in
    let x = c.args.task.now.point.now in
    found_key f x g.N.Gains.gains c.requires.gains c.args.k c.requires.length s
    (answer_found f x c.args.k _ c.in_ok-answer.answer s is c.in_ok-answer.ensures.answer)

pub reported-seat-requires-clause-outdone : goal.reported-seat-requires-clause-outdone
reported-seat-requires-clause-outdone g c is =
    let f = c.args.task.now.fold.now in
    let x = c.args.task.now.point.now in
    IsOutdone-later g.N.Gains.gains c.args.k _ _ c.shows_best-at_best.ensures.later.better
    (beaten_outdone f x g.N.Gains.gains c.requires.gains c.args.k c.requires.length _
    (answer_beaten f x c.args.k _ c.in_ok-answer.answer is c.in_ok-answer.ensures.answer))

pub returns : goal.returns
returns g c =
    let f = c.args.task.now.fold.now in
    let x = c.args.task.now.point.now in
    let looked = c.in_ok-answer.ensures.kept in
    let again = c.shows_best-at_best.ensures.later in
    let seat = c.shows_best-at_best.new.bound.seat in
    let view = again.view ∙ ap (λ (v : View). seeing_view v seat.view.seen) looked.view in
    let inside = c.worker.inside in
    let at_best = c.shows_best-at_best.result in
    let w : WorkerValue = record { held = inside.seat; steps = inside.steps.items; at_best = inside.at_best } in
    let r : WorkerValue = record {
      held = c.reported-seat.result.0;
      steps = c.in_ok-steps.steps.items;
      at_best = at_best;
    } in
    subst (λ (v : WorkerValue). HasTried f x c.args.k v r) c.worker.view_is
    (has_tried f x c.args.k w r seat.view _ c.in_ok-answer.answer view
    (c.reported-seat.ensures.table ∙ again.of ∙ looked.of) c.in_ok-answer.ensures.answer
    c.shows_best-at_best.ensures.best c.reported-seat.result.1
    c.reported-seat.ensures.offered c.reported-seat.ensures.beaten c.in_ok-steps.ensures.one c.in_ok-steps.ensures.none)
