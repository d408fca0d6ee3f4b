use Rattle.std.proofs.Common.{◌≡◌, drop}
use Rattle.criterion_laws.specs.Prefixes as prefixes
use Rattle.complete_lists.proofs.clashes.clashes_settle.Given as goal

abbrev pub invariant-loop-row : goal.invariant-loop-row
invariant-loop-row l =
    prefixes.clashes_settle l.cols l.basis.rows (drop l.row l.basis.rows)
    ≡ prefixes.clashes_settle l.cols l.basis.rows l.basis.rows
