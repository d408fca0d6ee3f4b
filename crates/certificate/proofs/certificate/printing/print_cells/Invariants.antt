use Rattle.std.proofs.Common.{◌≡◌, ◌++◌}
use Rattle.mat_files.proofs.PrintingLaws.{front_text}
use Rattle.certificate.specs.CertificateText.{cell_text}
use Rattle.certificate.proofs.certificate.printing.print_cells.Given as goal

abbrev pub invariant-loop-i : goal.invariant-loop-i
invariant-loop-i l = l.out.items ≡ l.fn.out.items ++ front_text cell_text l.row l.i
