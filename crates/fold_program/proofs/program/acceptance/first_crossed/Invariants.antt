use Rattle.std.proofs.Common.{take, ◌≤ℤ◌}
use Rattle.std.specs.List.{AllZip}
use Rattle.fold_program.proofs.program.acceptance.first_crossed.Given as goal

abbrev pub invariant-loop-at : goal.invariant-loop-at
invariant-loop-at l = AllZip ◌≤ℤ◌ (take l.at l.lower) (take l.at l.upper)
