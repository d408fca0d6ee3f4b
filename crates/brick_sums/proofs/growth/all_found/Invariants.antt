use Rattle.std.proofs.Common.{◌<◌, ◌≤◌, length}
use Rattle.lattice_theory.specs.SignedSums.{AreSums}
use Rattle.brick_sums.specs.Levels.{sums_of, kept, AreLast}
use Rattle.brick_sums.proofs.growth.all_found.Given as goal

abbrev pub invariant-loop-level : goal.invariant-loop-level
invariant-loop-level l = record {
  listed : AreSums l.gens.cols l.gens.rows l.level (sums_of l.found.levels.entries);
  last : AreLast l.gens.cols l.gens.rows l.level (sums_of l.found.levels.entries) (kept l.found.last.items);
  longer : l.level < length (sums_of l.found.levels.entries);
  few : length (sums_of l.found.levels.entries) ≤ l.most;
}
