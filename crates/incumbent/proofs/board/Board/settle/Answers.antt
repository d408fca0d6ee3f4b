use Rattle.board_laws.proofs.Orders.{outdone_settles}
use Rattle.incumbent.proofs.Offering.{settled_view}
use Rattle.incumbent.proofs.board.Board.settle.Goals as goal

pub returns-clause-view : goal.returns-clause-view
returns-clause-view g c =
    settled_view g.N.Gains.gains c.args.seat.now.view c.step_load_best.new.seat.view c.args.k c.step_load_best.result
    c.step_load_best.ensures.view
    (outdone_settles g.N.Gains.gains c.args.k c.args.seat.now.view.seen c.step_load_best.result c.requires.outdone
    c.step_load_best.ensures.better)
