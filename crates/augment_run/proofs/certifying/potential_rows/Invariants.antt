use Rattle.std.proofs.Common.{◌≡◌, take, flat_map}
use Rattle.augment_run.proofs.certifying.potential_rows.Given as goal

-- the layers so far
abbrev pub invariant-loop-layer : goal.invariant-loop-layer
invariant-loop-layer l = l.cells.items ≡ flat_map (λ r. r) (take l.layer l.potentials.rows)
