use Rattle.std.proofs.Common.{ap, ◌∙◌, arith, refl}
use Rattle.mat_files.proofs.PrintingLaws.{one_row_more}
use Rattle.certificate.specs.CertificateText.{cell_text}
use Rattle.certificate.proofs.certificate.printing.print_table.Goals as goal

pub loop-row-preserved : goal.loop-row-preserved
loop-row-preserved c =
    one_row_more cell_text (λ _. Unit {0}) _ c.args.table.now.rows c.row.result.now c.loop-row.out.items
    c.print_cells.new.out.items
    c.loop-row.row _ (omega (arith, c.loop-row-test.true, c.rows-row-end.ensures)) refl c.row.ensures.cells tt
    c.in_ok-print_cells.ensures c.loop-row.invariant
