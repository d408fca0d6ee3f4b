use Rattle.std.proofs.Common.{arith, ◌∙◌, sym, ◌-◌}
use Rattle.fold_program.proofs.ViewLaws.{bricks_are, brick_at, same_some}
use Rattle.fold_program.proofs.program.Program.upper_row.Goals as goal

pub row-requires-clause-to : goal.row-requires-clause-to
row-requires-clause-to c =
    let n = bricks_are _ _ c.self.invariant c.self.view_is in omega
    (arith, n, c.requires.to, c.self.invariant.upper_rows)

pub returns-clause-bounds : goal.returns-clause-bounds
returns-clause-bounds c =
    let b = brick_at _ _ (c.args.brick - 1) c.self.invariant c.self.view_is
    (omega (arith, c.requires.from, c.requires.to)) in
    (b.0, b.1, same_some _ _ (sym c.row.ensures.entries ∙ b.2.upper_is))
