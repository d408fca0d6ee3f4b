use Rattle.std.proofs.Common.{rules, ap, ◌∙◌, arith}
use Rattle.incumbent.specs.Seats.{Held}
use Rattle.incumbent.proofs.Allowed.{claim_allowed}
use Rattle.incumbent.proofs.board.Board.step_claim.Goals as goal

pub fetch_add-requires : goal.fetch_add-requires
fetch_add-requires g c =
    let words = c.self.invariant.2 in (
      search rules,
      omega arith,
      claim_allowed g.N.Gains.gains _ _ _ (ap (λ (h : Held). h.view.stand) c.seat.view_is
          ∙ c.requires.working),
    )
