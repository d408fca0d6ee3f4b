use Rattle.std.proofs.Common.{◌≡◌, ◌≤◌, ◌*◌, ◌^◌, ◌+◌, ◌+ℤ◌, length, unsigned_abs}
use Rattle.lattice_theory.specs.Vectors.{dot}
use Rattle.step_targets.proofs.images.image.Given as goal

abbrev pub invariant-loop-a : goal.invariant-loop-a
invariant-loop-a l = record {
  so_far : l.image +ℤ dot l.a-iterator.a.rest.now l.a-iterator.b.rest.now ≡ dot l.row l.sum;
  read : length l.yielded + length l.a-iterator.b.rest.now ≡ length l.sum;
  small : unsigned_abs l.image ≤ 2 ^ 94 * length l.yielded;
}
