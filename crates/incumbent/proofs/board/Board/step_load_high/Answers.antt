use Rattle.std.proofs.Common.{rules, ap, ◌∙◌, arith}
use Rattle.incumbent.specs.Seats.{Held}
use Rattle.incumbent.proofs.Allowed.{load_high_allowed}
use Rattle.incumbent.proofs.board.Board.step_load_high.Goals as goal

pub load-requires : goal.load-requires
load-requires g c =
    let words = c.self.invariant.2 in
    let few = c.self.invariant.0 in
    let room = c.requires.length in
    let seen = ap (λ (h : Held). h.view.seen) c.seat.view_is ∙ c.requires.seen in
    (search rules, omega arith, load_high_allowed g.N.Gains.gains _ _ _ c.seat.invariant.1 c.args.k seen)
