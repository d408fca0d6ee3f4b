use Rattle.std.proofs.Common.{◌≡◌, ◌<◌, ℕ, ◌++◌, pos, get_or, FitsSigned}
use Rattle.std.specs.Int.{w64}
use Rattle.std.specs.Fmt.{signed_decimal}
use Rattle.mat_files.proofs.PrintingLaws.{front_text}
use Rattle.mat_files.proofs.printing.print_row.Given as goal

abbrev pub invariant-loop-i : goal.invariant-loop-i
invariant-loop-i l = record {
  text : l.out.items ≡ l.fn.out.items ++ front_text signed_decimal l.row l.i;
  narrow : (k : ℕ) → k < l.i → FitsSigned w64 (get_or l.row k (pos 0));
}
