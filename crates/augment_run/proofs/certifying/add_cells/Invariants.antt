use Rattle.std.proofs.Common.{◌≡◌, ◌++◌, [], take, get_or}
use Rattle.augment_run.proofs.certifying.add_cells.Given as goal

-- the cells of the layer so far
abbrev pub invariant-loop-i : goal.invariant-loop-i
invariant-loop-i l = l.cells.items ≡ l.initial.cells.items ++ take l.i (get_or l.potentials.rows l.layer [])
