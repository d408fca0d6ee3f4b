use Rattle.std.proofs.Common.{◌≡◌, map, take}
use Rattle.complete_lists.specs.Ranks.{rows_in, first_signs}
use Rattle.complete_lists.proofs.clashes.all_signs.Given as goal

abbrev pub invariant-loop-i : goal.invariant-loop-i
invariant-loop-i l = l.signs.items ≡ map (first_signs l.places) (take l.i (rows_in l.ranked))
