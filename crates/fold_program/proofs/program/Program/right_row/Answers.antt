use Rattle.std.proofs.Common.{arith, rules, ◌∙◌, sym, ◌-◌, length, refl}
use Rattle.fold_program.proofs.ViewLaws.{bricks_are, brick_at, right_part, right_fits}
use Rattle.fold_program.proofs.program.Program.right_row.Goals as goal

pub slice_bounds-result-end : goal.slice_bounds-result-end
slice_bounds-result-end c =
    let n = bricks_are _ _ c.self.invariant c.self.view_is in
    let fits = right_fits (length c.self.inside.link.rows) (length c.self.inside.brick.rows) (c.args.brick - 1)
    (length c.self.inside.lower.rows) (omega (arith, n, c.requires.from, c.requires.to)) in
    search rules

pub returns-clause-rights : goal.returns-clause-rights
returns-clause-rights c =
    let b = brick_at _ _ (c.args.brick - 1) c.self.invariant c.self.view_is
    (omega (arith, c.requires.from, c.requires.to)) in
    let part = right_part _ _ c.row.result.now c.rows.result c.rows-rows.result
    (c.args.brick - 1) c.self.invariant.right_rows c.row.ensures.entries refl in
    (b.0, b.1, part ∙ rw (c.rows.ensures, c.rows-rows.ensures) (sym b.2.right_is))
