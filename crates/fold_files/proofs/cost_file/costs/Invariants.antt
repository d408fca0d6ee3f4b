use Rattle.std.proofs.Common.{◌≡◌, Ok, length, All}
use Rattle.convex_costs.specs.Bounds.{AreBounded}
use Rattle.mat_files.specs.Reading.{repeated}
use Rattle.fold_files.specs.CostText.{next_cost}
use Rattle.fold_files.proofs.cost_file.costs.Given as goal

abbrev pub invariant-loop : goal.invariant-loop
invariant-loop l = record {
  read : repeated next_cost l.counter l.fn.tokens ≡ Ok (l.costs.items, l.tokens);
  bounded : All AreBounded l.costs.items;
  many : length l.costs.items ≡ l.counter;
}
