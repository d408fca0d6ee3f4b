use Rattle.brick_dp.proofs.BlockLaws.{AreBlocksUpTo}
use Rattle.brick_dp.proofs.blocks.blocks.Given as goal

abbrev pub invariant-loop-block : goal.invariant-loop-block
invariant-loop-block l = AreBlocksUpTo l.menus l.blocks.items l.block
