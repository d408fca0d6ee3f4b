use Rattle.std.proofs.Common.{◌≡◌, ◌≤◌, ◌+◌, ◌*◌, unsigned_abs, sum_by, drop}
use Rattle.lattice_theory.specs.SignedSums.{vectors}
use Rattle.fold_program.specs.Refusals.{brick_magnitude, total_magnitude}
use Rattle.run_theory.specs.Live.{least_before}
use Rattle.brick_dp.proofs.floors.floor.Given as goal

abbrev pub invariant-loop-done : goal.invariant-loop-done
invariant-loop-done l = record {
  is : l.floor ≡ least_before l.fold.program l.fold.phase (vectors l.fold.sums) l._point l._k l.done;
  small : unsigned_abs l.floor + 2 * sum_by brick_magnitude (drop l.done l.fold.program.bricks) ≤ 2 * total_magnitude
      l.fold.program;
}
