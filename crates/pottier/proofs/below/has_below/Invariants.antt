use Rattle.std.proofs.Common.{◌≡◌, false, take}
use Rattle.std.specs.List.{All}
use Rattle.pottier.specs.Ranks.{lies_below, ranked_in}
use Rattle.pottier.proofs.below.has_below.Given as goal

-- no member so far is below z
abbrev pub invariant-loop-rank : goal.invariant-loop-rank
invariant-loop-rank l = All (λ r. lies_below (ranked_in l.members r) l.z ≡ false) (take l.rank-index l.ranks)
