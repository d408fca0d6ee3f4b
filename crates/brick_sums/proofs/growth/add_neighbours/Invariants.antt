use Rattle.std.proofs.Common.{take, suc}
use Rattle.brick_sums.specs.Levels.{sums_of, kept, AreLast, AreGrown, HasNeighbours}
use Rattle.brick_sums.proofs.growth.add_neighbours.Given as goal

abbrev pub invariant-loop-row : goal.invariant-loop-row
invariant-loop-row l = record {
  grown : AreGrown l.gens.cols l.gens.rows l.level (sums_of l.initial.found.levels.entries)
      (sums_of l.found.levels.entries);
  last : AreLast l.gens.cols l.gens.rows (suc l.level) (sums_of l.found.levels.entries) (kept l.found.last.items);
  done : HasNeighbours (take l.row l.gens.rows) (sums_of l.found.levels.entries) l.before;
}
