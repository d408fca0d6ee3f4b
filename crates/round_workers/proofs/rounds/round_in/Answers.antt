use Rattle.std.proofs.Common.{◌∙◌, length, ap, sym, subst}
use Rattle.fold_theory.specs.Programs.{IsLength, widest}
use Rattle.rule_laws.proofs.Gains.{no_gain}
use Rattle.step_lengths.specs.Lengths.{IsLengthCount}
use Rattle.round_workers.specs.Workers.{WorkerValue, Keeps}
use Rattle.round_workers.proofs.Known.{same_count, some_length}
use Rattle.round_workers.proofs.Joining.{team_is_done, found_rule}
use Rattle.round_workers.proofs.rounds.round_in.Goals as goal

pub new-requires-clause-all : goal.new-requires-clause-all
new-requires-clause-all g c =
    let range = c.widest.ensures.widest ∙ ap widest c.program.ensures in
    same_count (IsLength c.args.task.now.fold.now.program) c.count-lengths.result (length g.N.Gains.gains)
    (subst (λ n. IsLengthCount n c.count-lengths.result) range c.count-lengths.ensures.lengths)
    c.requires.gains.lengths

pub new-requires-clause-some : goal.new-requires-clause-some
new-requires-clause-some g c = some_length c.widest.result c.count-lengths.result c.count-lengths.ensures.lengths

pub joined-requires-clause-opening : goal.joined-requires-clause-opening
joined-requires-clause-opening g c =
    let f = c.args.task.now.fold.now in
    let x = c.args.task.now.point.now in
    (team_is_done _ f x c.in_ok-board.board c.in_ok-workers.workers.items c.in_ok-done.done.items
    c.in_ok-done-2.done.items c.pop.new.self.items c.in-Some.opening c.in_ok-workers.ensures.team
    c.in_ok-done.ensures.count
    c.in_ok-done.ensures.each c.in_ok-done-2.ensures c.in-Some.ensures.items).opening

pub joined-requires-clause-finished : goal.joined-requires-clause-finished
joined-requires-clause-finished g c =
    let f = c.args.task.now.fold.now in
    let x = c.args.task.now.point.now in
    (team_is_done _ f x c.in_ok-board.board c.in_ok-workers.workers.items c.in_ok-done.done.items
    c.in_ok-done-2.done.items c.pop.new.self.items c.in-Some.opening c.in_ok-workers.ensures.team
    c.in_ok-done.ensures.count
    c.in_ok-done.ensures.each c.in_ok-done-2.ensures c.in-Some.ensures.items).finished

pub joined-requires-clause-others : goal.joined-requires-clause-others
joined-requires-clause-others g c =
    let f = c.args.task.now.fold.now in
    let x = c.args.task.now.point.now in
    (team_is_done _ f x c.in_ok-board.board c.in_ok-workers.workers.items c.in_ok-done.done.items
    c.in_ok-done-2.done.items c.pop.new.self.items c.in-Some.opening c.in_ok-workers.ensures.team
    c.in_ok-done.ensures.count
    c.in_ok-done.ensures.each c.in_ok-done-2.ensures c.in-Some.ensures.items).split

pub returns-in_default-close : goal.returns-in_default-close
returns-in_default-close g c =
    no_gain c.args.task.now.fold.now c.args.task.now.point.now g.N.Gains.gains c.requires.gains
    c.in_default-close.ensures.best

pub returns : goal.returns
returns g c =
    let f = c.args.task.now.fold.now in
    let x = c.args.task.now.point.now in
    let inside = c.seat.inside in
    let w : WorkerValue = record { held = inside.seat; steps = inside.steps.items; at_best = inside.at_best } in
    let keeps = subst (Keeps f x) (sym c.seat.view_is) c.in_ok-seat.ensures.keeps in
    let closed = c.in-Some-close.ensures in
    let step = c.step_of.ensures in
    found_rule f x g.N.Gains.gains c.requires.gains w keeps c.in-Some-close.best c.step_of.result closed.best
    closed.offered step.found step.none
