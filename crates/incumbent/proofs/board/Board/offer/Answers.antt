use Rattle.std.proofs.Common.{ℕ, ◌≤◌, sym, subst, ap, ◌∙◌, Some, refl, inr}
use Rattle.run_theory.specs.Keys.{IsNoWorse}
use Rattle.round_core.specs.declared.parts.Fate.TheVariants.{Written}
use Rattle.board_laws.specs.declared.views.View.{View}
use Rattle.board_laws.specs.Indexes.{index_key}
use Rattle.board_laws.specs.Views.{looked_view, marked_view}
use Rattle.incumbent.specs.Seats.{Held}
use Rattle.incumbent.proofs.Offering.{written_twice, beaten_view, written_view, written_has, offered_view}
use Rattle.incumbent.proofs.Offering.{not_beaten_beats, nearer}
use Rattle.incumbent.proofs.board.Board.offer.Goals as goal

pub step_load_best-seen-requires-clause-unsettled : goal.step_load_best-seen-requires-clause-unsettled
step_load_best-seen-requires-clause-unsettled g c =
    let v : View = c.args.seat.now.view in
    let is = c.step_store_low.ensures.view ∙ ap (λ (u : View). marked_view c.args.key.k Written u)
    c.step_store_high.ensures.view
    ∙ written_twice g.N.Gains.gains v c.args.key c.requires.gain in
    inr (written_has g.N.Gains.gains v c.args.key c.requires.gain c.step_store_low.new.seat.view v.seen is
    c.requires.fate)

pub loop-key-init : goal.loop-key-init
loop-key-init g c =
    let v : View = c.args.seat.now.view in
    let is = c.step_store_low.ensures.view ∙ ap (λ (u : View). marked_view c.args.key.k Written u)
    c.step_store_high.ensures.view
    ∙ written_twice g.N.Gains.gains v c.args.key c.requires.gain in (
      c.step_load_best-seen.ensures.table ∙ c.step_store_low.ensures.table ∙ c.step_store_high.ensures.table,
      c.step_load_best-seen.ensures.view
          ∙ ap (λ (u : View). looked_view g.N.Gains.gains (Some c.args.key.k) u c.step_load_best-seen.result) is,
      c.step_load_best-seen.ensures.index,
      c.step_load_best-seen.ensures.other c.args.key.k
          (written_has g.N.Gains.gains v c.args.key c.requires.gain c.step_store_low.new.seat.view v.seen is
          c.requires.fate),
      refl,
      refl,
      subst (λ (n : ℕ). IsNoWorse (index_key g.N.Gains.gains n)
          (index_key g.N.Gains.gains c.step_load_best-seen.result))
          (ap (λ (u : View). u.seen) is) c.step_load_best-seen.ensures.better,
    )

pub returns-then-is_beaten-clause-settled : goal.returns-then-is_beaten-clause-settled
returns-then-is_beaten-clause-settled g c _ =
    let v : View = c.args.seat.now.view in
    beaten_view g.N.Gains.gains v c.args.key c.requires.gain c.is_beaten.new.seat.view c.loop-key.seen
    (ap (λ (h : Held). h.view) c.is_beaten.ensures.same ∙ c.loop-key.invariant.1) (sym c.if-is_beaten.ensures.beaten)

pub returns-then-found-seen-clause-offered : goal.returns-then-found-seen-clause-offered
returns-then-found-seen-clause-offered g c _ =
    let v : View = c.args.seat.now.view in
    let written = written_view g.N.Gains.gains v c.args.key c.requires.gain c.is_beaten.new.seat.view c.loop-key.seen
    (ap (λ (h : Held). h.view) c.is_beaten.ensures.same ∙ c.loop-key.invariant.1) (sym c.if-is_beaten.ensures.beaten) in
    c.step_exchange-found.ensures.hit c.if-found-seen.true
    ∙ offered_view g.N.Gains.gains v c.args.key c.requires.gain c.is_beaten.new.seat.view c.loop-key.seen written

pub loop-key-smaller : goal.loop-key-smaller
loop-key-smaller g c =
    let few = subst (λ (n : ℕ). n ≤ 64) c.self.invariant.0 c.self.invariant.1 in
    let missed = c.step_exchange-found.ensures.miss c.if-found-seen.false in
    nearer g.N.Gains.gains c.args.key c.loop-key.seen c.step_exchange-found.result few c.requires.gain
    c.loop-key.invariant.2 missed.1
    (not_beaten_beats g.N.Gains.gains c.args.key c.loop-key.seen c.loop-key.invariant.2 c.loop-key.invariant.3
    (sym c.if-is_beaten.ensures.beaten)) missed.2
