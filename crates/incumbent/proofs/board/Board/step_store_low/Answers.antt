use Rattle.std.proofs.Common.{rules, ap, sym, refl, ◌∙◌, subst, arith}
use Rattle.round_core.specs.declared.parts.Fate.TheVariants.{HalfWritten}
use Rattle.round_core.specs.Allowed.{is_live}
use Rattle.board_laws.specs.Views.{HasFate}
use Rattle.incumbent.specs.Plays.{Sat}
use Rattle.incumbent.specs.Seats.{Held}
use Rattle.incumbent.proofs.Allowed.{store_low_allowed}
use Rattle.incumbent.proofs.board.Board.step_store_low.Goals as goal

pub store-requires : goal.store-requires
store-requires g c =
    let words = c.self.invariant.2 in
    let few = c.self.invariant.0 in
    let room = c.requires.length in
    let has = subst (λ (h : Held). HasFate c.args.k HalfWritten h.view.owned) (sym c.seat.view_is) c.requires.fate in
    let half = c.requires.half in (
      search rules,
      omega arith,
      store_low_allowed g.N.Gains.gains _ _ _ c.seat.invariant.1 c.args.k half.0 c.args.half
          has half.1 half.2,
    )

pub invariant_of-seat : goal.invariant_of-seat
invariant_of-seat g c =
    let is = c.store.ensures.2 c.args.k refl in
    (ap (λ (m : Sat). m.1) is ∙ c.seat.invariant.0, ap (λ (m : Sat). is_live m.0.stand) is ∙ c.seat.invariant.1)
