use Rattle.std.proofs.Common.{◌≡◌, ℕ, ◌<◌, ℤ, ◌<ℤ◌, Some, slice_get}
use Rattle.brick_dp.proofs.floors.some_within.Given as goal

abbrev pub invariant-loop-cost : goal.invariant-loop-cost
invariant-loop-cost l = (i : ℕ) (a : ℤ) → i < l.cost-index → slice_get l.costs i ≡ Some (Some a) → l.limit <ℤ a
