use Rattle.std.proofs.Common.{◌≡◌, ◌*◌, length}
use Rattle.brick_dp.specs.Blocks.{IsBelowAll}
use Rattle.brick_dp.proofs.blocks.Block.new.Given as goal

abbrev pub invariant-loop-at : goal.invariant-loop-at
invariant-loop-at l = record {
  below : IsBelowAll l.menus (16 * l.block) l.at l.changes.items;
  size : length l.changes.items ≡ l.sums;
}
