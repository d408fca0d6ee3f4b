use Rattle.std.proofs.Common.{◌≡◌, ◌≤◌, ◌+◌, ◌-◌, ◌*◌, ◌^◌, drop, sum}
use Rattle.fold_theory.specs.Programs.{link_rests, link_misses, link_miss}
use Rattle.fold_program.proofs.program.Program.link_residual.Given as goal

abbrev pub invariant-loop-row : goal.invariant-loop-row
invariant-loop-row l = record {
  from : 1 ≤ l.row;
  to : l.row ≤ 17;
  so_far : l.residual + sum (drop (l.row - 1) (link_misses l.self (link_rests l.self l.p)))
      ≡ link_miss l.self (link_rests l.self l.p);
  small : l.residual ≤ 2 ^ 113 * (l.row - 1);
}
