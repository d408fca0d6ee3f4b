use Rattle.std.proofs.Common.{◌≡◌, ◌<◌, map, take, length, All, IfSome}
use Rattle.lattice_theory.specs.Vectors.{add}
use Rattle.listed_sums.specs.Places.{vectors_of, place_in}
use Rattle.listed_potentials.proofs.columns.places.Given as goal

abbrev pub invariant-loop-place : goal.invariant-loop-place
invariant-loop-place l = record {
  are : l.places.items ≡ map (λ h. place_in (vectors_of l.sums.rows) (add l.w h))
      (take l.place (vectors_of l.sums.rows));
  inside : All (λ p. IfSome p (λ at. at < length l.sums.rows)) l.places.items;
}
