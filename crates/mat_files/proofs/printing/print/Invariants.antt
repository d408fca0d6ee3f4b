use Rattle.std.proofs.Common.{◌+◌, ◌++◌, ◌-◌, ◌∷◌, [], ◌≤◌, length, All, FitsSigned}
use Rattle.std.specs.Int.{w64}
use Rattle.std.specs.Fmt.{decimal, signed_decimal}
use Rattle.mat_files.proofs.PrintingLaws.{AreWritten}
use Rattle.mat_files.proofs.printing.print.Given as goal

abbrev pub invariant-loop-row : goal.invariant-loop-row
invariant-loop-row l = record {
  from : 1 ≤ l.row;
  to : l.row ≤ length l.m.rows + 1;
  rows : AreWritten signed_decimal (All (λ a. FitsSigned w64 a))
      (decimal (length l.m.rows) ++ 32 ∷ decimal l.m.cols ++ 10 ∷ []) l.m.rows l.text.items (l.row - 1);
}
