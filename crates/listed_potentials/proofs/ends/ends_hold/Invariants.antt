use Rattle.std.proofs.Common.{◌≡◌, drop}
use Rattle.fold_theory.specs.Programs.{link_rests}
use Rattle.listed_sums.specs.Places.{vectors_of}
use Rattle.listed_potentials.specs.Ends as ends
use Rattle.listed_potentials.proofs.ends.ends_hold.Given as goal

abbrev pub invariant-loop-place : goal.invariant-loop-place
invariant-loop-place l =
    ends.ends_hold l.program l.phase (drop l.place (vectors_of l.sums.rows)) (link_rests l.program l.point)
    (drop l.place l.row)
    ≡ ends.ends_hold l.program l.phase (vectors_of l.sums.rows) (link_rests l.program l.point) l.row
