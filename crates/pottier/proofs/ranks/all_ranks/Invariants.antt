use Rattle.std.proofs.Common.{take}
use Rattle.pottier.specs.Ranks.{AreRanks}
use Rattle.pottier.proofs.ranks.all_ranks.Given as goal

abbrev pub invariant-loop-place : goal.invariant-loop-place
invariant-loop-place l = AreRanks l.at (take l.place l.members) l.ranks.items
