use Rattle.std.proofs.Common.{◌+◌}
use Rattle.lattice_laws.proofs.Elements.{first_rows}
use Rattle.pottier.specs.Stages.{AreFitting, IsCompleted}
use Rattle.pottier.proofs.slack.slack_basis.Given as goal

-- the members are completed for the rows so far
abbrev pub invariant-loop-row : goal.invariant-loop-row
invariant-loop-row l = record {
  fitting : AreFitting (l.a.cols + l.row) l.limit l.members;
  completed : IsCompleted (first_rows l.row l.a) l.members;
}
