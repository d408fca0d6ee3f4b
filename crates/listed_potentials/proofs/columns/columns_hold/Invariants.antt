use Rattle.std.proofs.Common.{◌≡◌, map, drop}
use Rattle.listed_sums.specs.Places.{vectors_of}
use Rattle.listed_potentials.specs.Columns as columns
use Rattle.listed_potentials.proofs.columns.columns_hold.Given as goal

abbrev pub invariant-loop-place : goal.invariant-loop-place
invariant-loop-place l =
    columns.columns_hold (map (λ cs. cs.items) l.changes) (vectors_of l.sums.rows) l.potentials.rows l.place
    (drop l.place (vectors_of l.sums.rows))
    ≡ columns.columns_hold (map (λ cs. cs.items) l.changes) (vectors_of l.sums.rows) l.potentials.rows 0
    (vectors_of l.sums.rows)
