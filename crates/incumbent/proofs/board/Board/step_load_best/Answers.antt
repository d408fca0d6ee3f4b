use Rattle.std.proofs.Common.{rules, ℕ, sym, subst, arith, ◌⊎◌, IfSome}
use Rattle.round_core.specs.declared.parts.Fate.TheVariants.{Open, Written}
use Rattle.board_laws.specs.Views.{HasFate}
use Rattle.incumbent.specs.Seats.{Held}
use Rattle.incumbent.proofs.Allowed.{load_best_allowed}
use Rattle.incumbent.proofs.board.Board.step_load_best.Goals as goal

pub load-requires : goal.load-requires
load-requires g c =
    let words = c.self.invariant.2 in
    let has = subst (λ (h : Held). IfSome c.args.settles (λ (k : ℕ). HasFate k Open h.view.owned
    ⊎ HasFate k Written h.view.owned))
    (sym c.seat.view_is) c.requires.unsettled in (
      search rules,
      omega arith,
      load_best_allowed g.N.Gains.gains _ _ _ c.seat.invariant.1 c.args.settles
          g.A.Aim.settles c.requires.aim has,
    )

pub returns-clause-other : goal.returns-clause-other
returns-clause-other g c k has =
    c.load.ensures.2.3 k (subst (λ (h : Held). HasFate k Written h.view.owned) (sym c.seat.view_is) has)
