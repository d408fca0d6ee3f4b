use Rattle.std.proofs.Common.{arith, rules, FitsSigned, w64, ◌-◌}
use Rattle.std.proofs.lemmas.Int.{to_z-of_z}
use Rattle.fold_program.proofs.ViewLaws.{bricks_are, brick_at, entry_of}
use Rattle.fold_program.proofs.program.Program.upper.Goals as goal

pub entry-requires-clause-to : goal.entry-requires-clause-to
entry-requires-clause-to c =
    let n = bricks_are _ _ c.self.invariant c.self.view_is in omega
    (arith, n, c.requires.to, c.self.invariant.upper_rows)

pub returns : goal.returns
returns c =
    let b = brick_at _ _ (c.args.brick - 1) c.self.invariant c.self.view_is
    (omega (arith, c.requires.from, c.requires.to)) in
    let fits : FitsSigned w64 c.entry.result = search rules in
    simp to_z-of_z (b.0, b.1, entry_of _ _ _ _ b.2.upper_is c.entry.ensures)
