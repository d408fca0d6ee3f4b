use Rattle.std.proofs.Common.{◌≤ℤ◌, arith, w64, FitsSigned, rules}
use Rattle.std.specs.Int.{w128}
use Rattle.std.proofs.lemmas.Int.{ints, to_z-of_z}
use Rattle.step_targets.proofs.BoundLaws.{FitsSigned-between}
use Rattle.step_targets.proofs.moved_within.Goals as goal

pub returns-then-moved-from : goal.returns-then-moved-from
returns-then-moved-from c =
    let first : FitsSigned w64 c.args.entry = c.ranges.entry in
    let second : FitsSigned w64 c.args.part = c.ranges.part in
    let value = simp to_z-of_z at c.moved_entry-moved.ensures in
    let above : c.args.lower ≤ℤ c.moved_entry-moved.result = grind (arith, ints) in
    let below : c.moved_entry-moved.result ≤ℤ c.args.upper = grind (arith, ints) in
    let narrow : FitsSigned w64 c.moved_entry-moved.result =
    FitsSigned-between w64 c.args.lower c.args.upper c.moved_entry-moved.result c.ranges.lower c.ranges.upper above
    below in
    let wide : FitsSigned w128 c.moved_entry-moved.result = search rules in
    ((rw (← value) above, rw (← value) below), simp to_z-of_z value)
