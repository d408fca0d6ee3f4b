use Rattle.std.proofs.Common.{◌≡◌, ◌++◌}
use Rattle.brick_sums.specs.Levels.{sums_of}
use Rattle.brick_sums.proofs.growth.listed.Given as goal

abbrev pub invariant-loop-vector : goal.invariant-loop-vector
invariant-loop-vector l = record {
  taken : l.fn.levels.entries ≡ l.yielded ++ l.vector-iterator;
  made : l.members.items ≡ sums_of l.yielded;
}
