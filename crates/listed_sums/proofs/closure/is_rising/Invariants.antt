use Rattle.std.proofs.Common.{◌≡◌, ◌≤◌, ◌-◌, drop}
use Rattle.lattice_theory.specs.Vectors as vector
use Rattle.listed_sums.specs.Places.{vectors_of}
use Rattle.listed_sums.proofs.closure.is_rising.Given as goal

abbrev pub invariant-loop-place : goal.invariant-loop-place
invariant-loop-place l = record {
  from : 1 ≤ l.place;
  rest : vector.is_rising (drop (l.place - 1) (vectors_of l.sums.rows)) ≡ vector.is_rising (vectors_of l.sums.rows);
}
