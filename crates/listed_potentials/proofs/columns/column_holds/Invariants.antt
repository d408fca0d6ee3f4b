use Rattle.std.proofs.Common.{◌≡◌, map, drop}
use Rattle.listed_potentials.specs.Columns as columns
use Rattle.listed_potentials.proofs.columns.column_holds.Given as goal

abbrev pub invariant-loop-layer : goal.invariant-loop-layer
invariant-loop-layer l =
    columns.column_holds (drop l.layer (map (λ cs. cs.items) l.changes)) l.places l.at (drop l.layer l.potentials.rows)
    ≡ columns.column_holds (map (λ cs. cs.items) l.changes) l.places l.at l.potentials.rows
