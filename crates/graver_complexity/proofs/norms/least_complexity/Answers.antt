use Rattle.std.proofs.Common.{◌∙◌, sym, true, false}
use Rattle.graver_complexity.proofs.NormLaws.{least_complexity-entries}
use Rattle.graver_complexity.proofs.norms.least_complexity.Goals as goal

pub returns-then-is_zero : goal.returns-then-is_zero
returns-then-is_zero c =
    least_complexity-entries c.args.m.now c.entries.result.now true c.entries.ensures
    (sym c.if-is_zero.true ∙ c.is_zero.ensures)

pub returns-else-is_zero : goal.returns-else-is_zero
returns-else-is_zero c =
    least_complexity-entries c.args.m.now c.entries.result.now false c.entries.ensures
    (sym c.if-is_zero.false ∙ c.is_zero.ensures)
