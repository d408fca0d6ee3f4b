use Rattle.std.proofs.Common.{◌≡◌, ◌≤◌, ◌^◌, map, take, unsigned_abs, All, IfSome}
use Rattle.lattice_theory.specs.Vectors.{add}
use Rattle.listed_sums.specs.Places.{vectors_of}
use Rattle.fold_program.specs.Places.{ForBrick}
use Rattle.listed_potentials.specs.Moves.{change_of}
use Rattle.listed_potentials.proofs.changes.changes.Given as goal

abbrev pub invariant-loop-place : goal.invariant-loop-place
invariant-loop-place l = record {
  are : ForBrick l.program l.brick
      (λ b. l.changes.items ≡ map (λ h. change_of l.phase b l.at (add l.at h)) (take l.place (vectors_of l.sums.rows)));
  small : All (λ c. IfSome c (λ d. unsigned_abs d ≤ 2 ^ 121)) l.changes.items;
}
