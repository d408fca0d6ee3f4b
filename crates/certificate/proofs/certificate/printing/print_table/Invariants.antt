use Rattle.std.proofs.Common.{◌≡◌, ◌≤◌, ◌++◌, ◌∷◌, [], length, codes}
use Rattle.std.specs.Fmt.{decimal}
use Rattle.mat_files.proofs.PrintingLaws.{AreWritten}
use Rattle.certificate.specs.CertificateText.{cell_text}
use Rattle.certificate.proofs.certificate.printing.print_table.Given as goal

abbrev pub invariant-loop-row : goal.invariant-loop-row
invariant-loop-row l = AreWritten cell_text (λ _. Unit {0})
    (l.fn.out.items ++ decimal (length l.table.rows) ++ codes " " ++ decimal l.table.cols ++ codes "\n") l.table.rows
    l.out.items l.row
