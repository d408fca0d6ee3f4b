use Rattle.std.proofs.Common.{◌<◌, arith, ap, ◌∙◌, sym, length, slice_get}
use Rattle.certificate.proofs.TableLaws.{length_table_rows, row_read}
use Rattle.certificate.proofs.table.Table.row.Goals as goal

pub returns-clause-cells : goal.returns-clause-cells
returns-clause-cells c =
    let rows = ap (λ t. length t.rows) c.self.view_is in
    let inside : c.args.row < c.self.inside.rows =
    omega (
      arith,
      rows,
      length_table_rows c.self.inside.rows c.self.inside.cols c.self.inside.cells.items,
      c.requires,
    ) in
    sym (ap (λ t. slice_get t.rows c.args.row) c.self.view_is) ∙ row_read _ _ _ _ _ inside c.deref.ensures.value
