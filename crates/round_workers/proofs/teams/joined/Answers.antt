use Rattle.round_workers.proofs.Joining.{taking_first, taking_next, taking_number}
use Rattle.round_workers.proofs.teams.joined.Goals as goal

pub loop-other-init : goal.loop-other-init
loop-other-init g c =
    taking_first c.args.task.now.fold.now c.args.task.now.point.now c.args.board.now c.args.opening c.args.others.items
    c.requires.opening c.requires.finished c.requires.others

pub take_in-requires-clause-other : goal.take_in-requires-clause-other
take_in-requires-clause-other g c =
    (taking_number c.args.task.now.fold.now c.args.task.now.point.now c.args.board.now c.loop-other.opening
    c.in-Some.other c.loop-other.others.items _ c.loop-other.invariant c.in-Some.ensures.items).0

pub take_in-requires-clause-split_off : goal.take_in-requires-clause-split_off
take_in-requires-clause-split_off g c =
    (taking_number c.args.task.now.fold.now c.args.task.now.point.now c.args.board.now c.loop-other.opening
    c.in-Some.other c.loop-other.others.items _ c.loop-other.invariant c.in-Some.ensures.items).1

pub loop-other-preserved : goal.loop-other-preserved
loop-other-preserved g c =
    taking_next c.args.task.now.fold.now c.args.task.now.point.now c.args.board.now g.N.Gains.gains c.loop-other.opening
    c.in-Some.other _ c.loop-other.others.items _ c.loop-other.invariant c.in-Some.ensures.items
    c.in_ok-take_in.ensures.table c.in_ok-take_in.ensures.view c.in_ok-take_in.ensures.steps
