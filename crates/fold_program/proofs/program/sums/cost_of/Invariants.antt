use Rattle.std.proofs.Common.{◌≡◌, ◌≤◌, ◌+◌, ◌+ℤ◌, ◌≤ℤ◌, unsigned_abs, drop, map, sum_by}
use Rattle.std.specs.List.{AllZip}
use Rattle.lattice_theory.specs.Lists.{sum_zip}
use Rattle.fold_theory.specs.Costs.{value}
use Rattle.fold_program.specs.Bounds.{cost_magnitude}
use Rattle.fold_program.proofs.program.sums.cost_of.Given as goal

abbrev pub invariant-loop-at : goal.invariant-loop-at
invariant-loop-at l = record {
  within : AllZip (λ c a. (c.lower ≤ℤ a) × (a ≤ℤ c.upper)) (drop l.at l.costs) (drop l.at l.vector);
  so_far : l.sum +ℤ sum_zip value (map (λ c. c.cost) (drop l.at l.costs)) (drop l.at l.vector)
      ≡ sum_zip value (map (λ c. c.cost) l.costs) l.vector;
  small : unsigned_abs l.sum + sum_by cost_magnitude (drop l.at l.costs) ≤ sum_by cost_magnitude l.costs;
}
