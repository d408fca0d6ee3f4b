use Rattle.std.proofs.Common.{◌≡◌, drop, length, int_le}
use Rattle.lattice_theory.specs.Lists.{all_zip}
use Rattle.fold_program.proofs.program.bricks.is_at_most.Given as goal

abbrev pub invariant-loop-a : goal.invariant-loop-a
invariant-loop-a l =
    all_zip int_le (drop (length l.yielded) l.low) (drop (length l.yielded) l.high) ≡ all_zip int_le l.low l.high
