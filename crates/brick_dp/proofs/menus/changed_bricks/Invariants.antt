use Rattle.std.proofs.Common.{◌≡◌, ℕ, false, length, Some}
use Rattle.std.specs.Prelude.{slice_get}
use Rattle.brick_dp.proofs.menus.changed_bricks.Given as goal

abbrev pub invariant-loop-done : goal.invariant-loop-done
invariant-loop-done l = record {
  size : length l.changed.items ≡ l.done;
  same : (i : ℕ) → slice_get l.changed.items i ≡ Some false → slice_get l.before i ≡ slice_get l.after i;
}
