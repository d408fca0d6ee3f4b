use Rattle.std.proofs.Common.{take, length, ◌≤◌, suc}
use Rattle.std.specs.List.{All}
use Rattle.brick_sums.specs.Levels.{sums_of, kept, AreLast, AreGrown, HasNeighbours}
use Rattle.brick_sums.proofs.growth.add_level.Given as goal

abbrev pub invariant-loop-before : goal.invariant-loop-before
invariant-loop-before l = record {
  grown : AreGrown l.gens.cols l.gens.rows l.level (sums_of l.initial.found.levels.entries)
      (sums_of l.found.levels.entries);
  last : AreLast l.gens.cols l.gens.rows (suc l.level) (sums_of l.found.levels.entries) (kept l.found.last.items);
  few : length (sums_of l.found.levels.entries) ≤ l.most;
  done : All (HasNeighbours l.gens.rows (sums_of l.found.levels.entries)) (take l.before-index (kept l.before-items));
}
