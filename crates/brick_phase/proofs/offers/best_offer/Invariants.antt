use Rattle.std.proofs.Common.{take}
use Rattle.brick_phase.specs.Moves.{vectors}
use Rattle.fold_program.specs.Places.{ForBrick}
use Rattle.brick_phase.specs.Offers.{IsBestOf, Uses}
use Rattle.brick_phase.proofs.OfferLaws.{Tried}
use Rattle.brick_phase.proofs.offers.best_offer.Given as goal

-- the best of the steps with the vectors so far
abbrev pub invariant-loop-vector : goal.invariant-loop-vector
invariant-loop-vector l =
    ForBrick l.program l.brick (λ b. IsBestOf l.program b l.at.point.items
    (Uses (take l.vector-index (vectors l.moves.vectors.items)) l.moves.lengths) l.best)

-- and of those with this vector and the lengths so far
abbrev pub invariant-loop-k : goal.invariant-loop-k
invariant-loop-k l =
    ForBrick l.program l.brick (λ b. IsBestOf l.program b l.at.point.items
    (Tried (vectors l.moves.vectors.items) l.moves.lengths l.vector-index l.vector.items l.k) l.best)
