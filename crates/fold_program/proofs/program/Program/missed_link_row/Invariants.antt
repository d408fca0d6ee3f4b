use Rattle.std.proofs.Common.{◌≡◌, ◌≤◌, ◌-◌, drop}
use Rattle.fold_theory.specs.declared.Broken.TheVariants.{LinkRow}
use Rattle.fold_theory.specs.Programs.{link_rests, link_misses}
use Rattle.fold_theory.specs.Breaks.{row_breaks, first_of}
use Rattle.fold_program.proofs.program.Program.missed_link_row.Given as goal

abbrev pub invariant-loop-row : goal.invariant-loop-row
invariant-loop-row l = record {
  from : 1 ≤ l.row;
  rest : first_of (row_breaks LinkRow l.row (drop (l.row - 1) (link_misses l.self (link_rests l.self l.p))))
      ≡ first_of (row_breaks LinkRow 1 (link_misses l.self (link_rests l.self l.p)));
}
