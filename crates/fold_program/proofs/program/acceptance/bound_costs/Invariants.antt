use Rattle.std.specs.Vec.Iter.{into_iter_items}
use Rattle.fold_program.proofs.BoundLaws.{IsBoundSoFar}
use Rattle.fold_program.proofs.program.acceptance.bound_costs.Given as goal

abbrev pub invariant-loop-cost : goal.invariant-loop-cost
invariant-loop-cost l = record {
  goes : (goal.iterator-loop-cost).can_next l.cost-iterator × (goal.iterator-loop-cost).is_finite l.cost-iterator;
  so_far : IsBoundSoFar l.fn.costs.items (into_iter_items l.cost-iterator) l.lower l.upper l.bound.items;
}
