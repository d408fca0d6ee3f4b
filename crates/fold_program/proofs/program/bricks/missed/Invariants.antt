use Rattle.std.proofs.Common.{◌≡◌, ◌≤◌, ◌*◌, ◌^◌, ◌+◌, ◌-ℤ◌, length, unsigned_abs}
use Rattle.lattice_theory.specs.Vectors.{dot}
use Rattle.fold_program.proofs.program.bricks.missed.Given as goal

abbrev pub invariant-loop-a : goal.invariant-loop-a
invariant-loop-a l = record {
  so_far : l.rest -ℤ dot l.a-iterator.a.rest.now l.a-iterator.b.rest.now ≡ l.right -ℤ dot l.row l.vector;
  read : length l.yielded + length l.a-iterator.b.rest.now ≡ length l.vector;
  small : unsigned_abs l.rest ≤ 2 ^ 63 + 2 ^ 94 * length l.yielded;
}
