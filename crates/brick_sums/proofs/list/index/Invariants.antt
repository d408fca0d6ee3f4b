use Rattle.brick_sums.proofs.IndexLaws.{IsIndexUpTo}
use Rattle.brick_sums.proofs.list.index.Given as goal

abbrev pub invariant-loop-at : goal.invariant-loop-at
invariant-loop-at l = IsIndexUpTo l.members l.places.entries l.at
