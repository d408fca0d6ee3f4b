use Rattle.std.proofs.Common.{◌≡◌, ◌≤◌, ◌^◌, take, unsigned_abs, All}
use Rattle.fold_theory.specs.Programs.{link_rests}
use Rattle.fold_program.proofs.program.Program.rests.Given as goal

abbrev pub invariant-loop-row : goal.invariant-loop-row
invariant-loop-row l = record {
  so_far : l.rests.items ≡ take l.row (link_rests l.self l.p);
  small : All (λ rest. unsigned_abs rest ≤ 2 ^ 113) l.rests.items;
}
