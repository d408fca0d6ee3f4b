use Rattle.std.proofs.Common.{◌≡◌, ◌≤◌, ◌*◌, ◌^◌, ◌+◌, ◌+ℤ◌, length, unsigned_abs}
use Rattle.lattice_theory.specs.Vectors as vector
use Rattle.int_vectors.proofs.product.dot.Given as goal

abbrev pub invariant-loop-x : goal.invariant-loop-x
invariant-loop-x l = record {
  so_far : l.sum +ℤ vector.dot l.x-iterator.a.rest.now l.x-iterator.b.rest.now ≡ vector.dot l.a l.b;
  read : length l.yielded + length l.x-iterator.a.rest.now ≡ length l.a;
  small : unsigned_abs l.sum ≤ 2 ^ 94 * length l.yielded;
}
