use Rattle.std.proofs.Common.{◌≡◌, map, take}
use Rattle.complete_lists.specs.Ranks.{first_signs}
use Rattle.complete_lists.proofs.clashes.listed_signs.Given as goal

abbrev pub invariant-loop-place : goal.invariant-loop-place
invariant-loop-place l = l.signs.items ≡ map (first_signs l.places) (take l.place l.basis.rows)
