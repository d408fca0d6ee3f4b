use Rattle.std.proofs.Common.{ℕ, ◌-◌, sym, subst, arith}
use Rattle.board_laws.specs.Closing.{MayClose}
use Rattle.board_laws.specs.Views.{HasFate}
use Rattle.round_core.specs.declared.parts.Fate.TheVariants.{Offered}
use Rattle.incumbent.specs.Seats.{Held}
use Rattle.incumbent.proofs.Closing.{index_few, ends_none, ends_best, ends_offered}
use Rattle.incumbent.proofs.board.Board.close.Goals as goal

pub free-requires : goal.free-requires
free-requires g c k h =
    let slots = c.close_with-closed.ensures.counts.1 in
    let none = c.self.invariant.3 in
    absurd (omega arith)

pub overflow_cast-result : goal.overflow_cast-result
overflow_cast-result g c =
    let last = c.close_with-closed.ensures.values.2 in
    let may = subst (λ (h : Held). MayClose g.N.Gains.gains h.view) (sym c.seat.view_is) c.requires.may in
    let few = index_few g.N.Gains.gains last.0 _ _ _ _ last.1.0 last.1.1 last.2 c.word-best.ensures c.seat.invariant.1
    may in
    omega (arith, few)

pub returns-then-best-eq0-clause-best : goal.returns-then-best-eq0-clause-best
returns-then-best-eq0-clause-best g c =
    let last = c.close_with-closed.ensures.values.2 in
    let may = subst (λ (h : Held). MayClose g.N.Gains.gains h.view) (sym c.seat.view_is) c.requires.may in
    ends_none g.N.Gains.gains last.0 _ _ _ _ last.1.0 last.1.1 last.2 c.word-best.ensures c.seat.invariant.1 may
    c.if-best-eq0.true

pub returns-else-best-eq0-clause-best : goal.returns-else-best-eq0-clause-best
returns-else-best-eq0-clause-best g c =
    let last = c.close_with-closed.ensures.values.2 in
    let may = subst (λ (h : Held). MayClose g.N.Gains.gains h.view) (sym c.seat.view_is) c.requires.may in
    ends_best g.N.Gains.gains last.0 _ _ _ _ last.1.0 last.1.1 last.2 c.word-best.ensures c.seat.invariant.1 may
    c.if-best-eq0.false

pub returns-else-best-eq0-clause-offered : goal.returns-else-best-eq0-clause-offered
returns-else-best-eq0-clause-offered g c =
    let last = c.close_with-closed.ensures.values.2 in
    let may = subst (λ (h : Held). MayClose g.N.Gains.gains h.view) (sym c.seat.view_is) c.requires.may in
    let k : ℕ = c.word-best.result - 1 in
    subst (λ (h : Held). HasFate k Offered h.view.owned) c.seat.view_is
    (ends_offered g.N.Gains.gains last.0 _ _ _ _ last.1.0 last.1.1 last.2 c.word-best.ensures c.seat.invariant.1 may
    c.if-best-eq0.false)
