use Rattle.std.proofs.Common.{◌≡◌, drop}
use Rattle.std.specs.List.{list_all}
use Rattle.criterion_laws.specs.Prefixes as prefixes
use Rattle.complete_lists.proofs.clashes.Settlers.signed_settles.Given as goal

abbrev pub invariant-loop-row : goal.invariant-loop-row
invariant-loop-row l =
    list_all (prefixes.clash_settles l.self.cols l.self.basis.rows l.f) (drop l.row l.self.basis.rows)
    ≡ list_all (prefixes.clash_settles l.self.cols l.self.basis.rows l.f) (drop l.from l.self.basis.rows)
