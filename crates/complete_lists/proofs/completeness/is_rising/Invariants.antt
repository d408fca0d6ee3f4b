use Rattle.std.proofs.Common.{◌≡◌, ◌≤◌, ◌-◌, drop}
use Rattle.lattice_theory.specs.Vectors as vector
use Rattle.complete_lists.proofs.completeness.is_rising.Given as goal

abbrev pub invariant-loop-row : goal.invariant-loop-row
invariant-loop-row l = record {
  from : 1 ≤ l.row;
  rest : vector.is_rising (drop (l.row - 1) l.basis.rows) ≡
      vector.is_rising l.basis.rows;
}
