use Rattle.std.proofs.Common.{rules, ap, sym, ◌∙◌, subst, ◌<◌, arith}
use Rattle.incumbent.specs.Seats.{Held}
use Rattle.incumbent.proofs.Allowed.{split_allowed}
use Rattle.incumbent.proofs.board.Board.split.Goals as goal

pub split_seat-seat-requires : goal.split_seat-seat-requires
split_seat-seat-requires g c =
    let words = c.self.invariant.2 in
    let number = ap (λ (h : Held). h.view.number) c.seat.view_is ∙ c.requires.opening in
    let room = subst (λ (h : Held). h.view.made < 15) (sym c.seat.view_is) c.requires.room in
    (search rules, omega arith, split_allowed g.N.Gains.gains 0 _ c.seat.inside.seat.me c.seat.invariant.1 number room)
