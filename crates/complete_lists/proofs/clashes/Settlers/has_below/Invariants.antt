use Rattle.std.proofs.Common.{◌≡◌, drop, length}
use Rattle.std.specs.List.{list_any}
use Rattle.criterion_laws.specs.Prefixes.{is_below_in}
use Rattle.complete_lists.specs.Ranks.{rows_in}
use Rattle.complete_lists.proofs.clashes.Settlers.has_below.Given as goal

abbrev pub invariant-loop-i : goal.invariant-loop-i
invariant-loop-i l =
    list_any (is_below_in (length l.z) l.z) (drop l.i (rows_in l.self-inside.ranked.items))
    ≡ list_any (is_below_in (length l.z) l.z) l.self-inside.basis.now.rows
