use Rattle.std.proofs.Common.{◌≡◌, take, flat_map}
use Rattle.augment_run.proofs.certifying.basis_rows.Given as goal

-- the elements so far
abbrev pub invariant-loop-i : goal.invariant-loop-i
invariant-loop-i l = l.entries.items ≡ flat_map (λ r. r) (take l.i l.basis.elements)
