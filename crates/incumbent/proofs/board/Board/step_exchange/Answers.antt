use Rattle.std.proofs.Common.{rules, ap, sym, ◌∙◌, subst, arith}
use Rattle.round_core.specs.declared.parts.Fate.TheVariants.{Written}
use Rattle.board_laws.specs.Views.{HasFate}
use Rattle.incumbent.specs.Seats.{Held}
use Rattle.incumbent.proofs.Allowed.{exchange_allowed_next}
use Rattle.incumbent.proofs.board.Board.step_exchange.Goals as goal

pub compare_exchange-requires : goal.compare_exchange-requires
compare_exchange-requires g c =
    let words = c.self.invariant.2 in
    let has = subst (λ (h : Held). HasFate c.args.k Written h.view.owned) (sym c.seat.view_is) c.requires.fate in
    let seen = ap (λ (h : Held). h.view.seen) c.seat.view_is ∙ c.requires.seen in (
      search rules,
      omega arith,
      exchange_allowed_next g.N.Gains.gains _ _ _ c.seat.invariant.1 c.args.k c.args.expected has seen c.requires.beats,
    )
