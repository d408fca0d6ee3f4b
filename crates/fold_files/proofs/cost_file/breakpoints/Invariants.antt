use Rattle.std.proofs.Common.{◌≡◌, Ok, length, All}
use Rattle.convex_costs.specs.Bounds.{IsBoundedPoint}
use Rattle.mat_files.specs.Reading.{repeated}
use Rattle.fold_files.specs.CostText.{next_breakpoint}
use Rattle.fold_files.proofs.cost_file.breakpoints.Given as goal

abbrev pub invariant-loop : goal.invariant-loop
invariant-loop l = record {
  read : repeated next_breakpoint l.counter l.fn.tokens ≡ Ok (l.points.items, l.tokens);
  bounded : All IsBoundedPoint l.points.items;
  many : length l.points.items ≡ l.counter;
}
