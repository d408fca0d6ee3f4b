-- A seat as contracts see it.
use Rattle.atomic_table.specs.Seated.{TableId}
use Rattle.board_laws.specs.declared.views.View.{View}

-- which board it is of, and what it knows
pub record Held : Type 0 where
  pub table : TableId
  pub view : View
