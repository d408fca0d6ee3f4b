use Rattle.std.proofs.Common.{rules, sym, subst, ◌≢◌, arith}
use Rattle.incumbent.specs.Seats.{Held}
use Rattle.incumbent.proofs.Allowed.{join_allowed}
use Rattle.incumbent.proofs.board.Board.join.Goals as goal

pub join_seat-requires : goal.join_seat-requires
join_seat-requires g c =
    let words = c.self.invariant.2 in
    let number = subst (λ (h : Held). h.view.number ≢ 0) (sym c.other.view_is) c.requires.split_off in (
      search rules,
      search rules,
      search rules,
      omega arith,
      join_allowed g.N.Gains.gains 0 _ c.seat.inside.seat.me c.seat.invariant.1 _ _ c.other.invariant.1 number,
    )
