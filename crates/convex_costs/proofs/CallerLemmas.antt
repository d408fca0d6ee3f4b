-- What crates above may cite of an accepted cost.
use Rattle.std.proofs.Common.{◌≡◌, ◌≤◌, ℤ, ◌≤ℤ◌, unsigned_abs, None}
use Rattle.fold_theory.specs.declared.Cost.{Cost}
use Rattle.fold_theory.specs.Costs.{value, magnitude, IsConvexOn}
use Rattle.convex_costs.specs.Faults.{cost_fault}
use Rattle.convex_costs.proofs.Accepted.{shape_none, convex_without_fault, value_small}

-- a cost without fault is convex on its bounds
pub accepted_is_convex : (c : Cost) (lo hi : ℤ) → cost_fault c lo hi ≡ None → IsConvexOn (value c) lo hi
accepted_is_convex c lo hi none = convex_without_fault c lo hi (shape_none c lo hi none)

-- it is no larger there than its magnitude
pub accepted_is_small : (c : Cost) (lo hi v : ℤ) → cost_fault c lo hi ≡ None → lo ≤ℤ v → v ≤ℤ hi →
    unsigned_abs (value c v) ≤ magnitude c lo hi
accepted_is_small c lo hi v none low high = value_small c lo hi v (shape_none c lo hi none) low high
