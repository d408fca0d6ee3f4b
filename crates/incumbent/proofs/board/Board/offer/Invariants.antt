use Rattle.std.proofs.Common.{◌≡◌, ◌≢◌, suc, ◌-◌, Some}
use Rattle.run_theory.specs.Keys.{IsNoWorse}
use Rattle.round_core.specs.declared.parts.Fate.TheVariants.{Written}
use Rattle.board_laws.specs.Indexes.{index_key, IsIndex}
use Rattle.board_laws.specs.Views.{looked_view, marked_view}
use Rattle.board_laws.proofs.Orders.{rank}
use Rattle.incumbent.proofs.board.Board.offer.Given as goal

-- the length is Written, or Beaten by the index that was seen last
abbrev pub invariant-loop-key : goal.invariant-loop-key
invariant-loop-key g l =
    (l.seat.table ≡ l.fn.seat.table)
    × (l.seat.view ≡ looked_view g.N.Gains.gains (Some l.fn.key.k) (marked_view l.fn.key.k Written l.fn.seat.view)
    l.seen)
    × IsIndex g.N.Gains.gains l.seen × (l.seen ≢ suc l.fn.key.k) × (l.key ≡ l.fn.key) × (l.self ≡ l.fn.self)
    × IsNoWorse (index_key g.N.Gains.gains l.fn.seat.view.seen) (index_key g.N.Gains.gains l.seen)

-- the index that is seen comes nearer to the key
abbrev pub decreases-loop-key : goal.decreases-loop-key
decreases-loop-key g l = rank (Some l.fn.key) - rank (index_key g.N.Gains.gains l.seen)

abbrev pub ghosts-step_load_best : goal.ghosts-step_load_best
ghosts-step_load_best g a = record { settles = a.settles }
