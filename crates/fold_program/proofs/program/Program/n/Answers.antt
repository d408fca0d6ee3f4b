use Rattle.std.proofs.Common.{◌∙◌, sym}
use Rattle.fold_program.proofs.ViewLaws.{bricks_are, sides_are_bounded}
use Rattle.fold_program.proofs.program.Program.n.Goals as goal

pub returns-clause-bricks : goal.returns-clause-bricks
returns-clause-bricks c = c.rows.ensures ∙ sym (bricks_are _ _ c.self.invariant c.self.view_is)

pub returns-clause-bounded : goal.returns-clause-bounded
returns-clause-bounded c = sides_are_bounded _ _ c.self.invariant c.self.view_is
