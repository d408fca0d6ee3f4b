use Rattle.std.proofs.Common.{◌≡◌, drop}
use Rattle.listed_potentials.specs.Moves as moves
use Rattle.listed_potentials.proofs.columns.row_holds.Given as goal

abbrev pub invariant-loop-at : goal.invariant-loop-at
invariant-loop-at l =
    moves.row_holds l.here (drop l.at l.changes) (drop l.at l.places) l.next
    ≡ moves.row_holds l.here l.changes l.places l.next
