use Rattle.std.proofs.Common.{false, ◌∷◌, [], length, refl, ap, arith, ◌∙◌}
use Rattle.std.proofs.lemmas.List.{length-append}
use Rattle.round_workers.specs.Workers.{WorkerValue}
use Rattle.round_workers.proofs.Joining.{splitting_more, team_ready, team_whole}
use Rattle.round_workers.proofs.teams.team.Goals as goal

pub loop-made-preserved : goal.loop-made-preserved
loop-made-preserved g c =
    let w : WorkerValue = record { held = c.split-seat.result; steps = c.new.result.items; at_best = false } in
    let split = c.split-seat.ensures in
    let all = c.loop-made.all.items in
    let more = c.in_ok-push.ensures.items in
    let n = ap length more ∙ length-append all (w ∷ []) in (
      splitting_more c.args.task.now.fold.now c.args.task.now.point.now c.args.board.now c.loop-made.opening
          c.split-seat.new.seat all c.push.new.self.items w c.loop-made.invariant.0 split.table split.view
          split.fresh_table split.fresh c.new.ensures.items refl more,
      omega (arith, n, c.loop-made.invariant.1),
      omega (arith, c.loop-made-test.true),
      refl,
    )

pub returns-clause-ready : goal.returns-clause-ready
returns-clause-ready g c =
    let w : WorkerValue = record { held = c.loop-made.opening; steps = c.new-2.result.items; at_best = false } in
    team_ready c.args.task.now.fold.now c.args.task.now.point.now c.args.board.now c.loop-made.opening
    c.loop-made.all.items c.push-2.new.self.items w c.loop-made.invariant.0 refl c.new-2.ensures.items refl
    c.in_ok-push-2.ensures.items

pub returns-clause-team : goal.returns-clause-team
returns-clause-team g c =
    let w : WorkerValue = record { held = c.loop-made.opening; steps = c.new-2.result.items; at_best = false } in
    team_whole c.args.task.now.fold.now c.args.task.now.point.now c.args.board.now c.loop-made.opening
    c.loop-made.all.items c.push-2.new.self.items w c.loop-made.invariant.0 refl c.new-2.ensures.items refl
    c.in_ok-push-2.ensures.items
