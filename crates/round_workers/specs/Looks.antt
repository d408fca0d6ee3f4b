-- A seat that looks again and again.
use Rattle.std.specs.Prelude.{◌≡◌, ℕ, List, Option}
use Rattle.run_theory.specs.Keys.{IsNoWorse}
use Rattle.board_laws.specs.Indexes.{index_key}
use Rattle.board_laws.specs.Views.{seeing_view}
use Rattle.incumbent.specs.Seats.{Held}

-- the seat after some looks: only what it saw may be another index, which is no worse
pub record IsLater (gains : List (Option ℕ)) (a b : Held) : Type 0 where
  pub of : b.table ≡ a.table
  pub view : b.view ≡ seeing_view a.view b.view.seen
  pub better : IsNoWorse (index_key gains a.view.seen) (index_key gains b.view.seen)
