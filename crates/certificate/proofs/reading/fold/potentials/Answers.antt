use Rattle.std.proofs.Common.{◌≡◌, ◌*◌, ◌^◌, ◌≤◌, arith, ap, length, sym, ◌∙◌, subst, All, refl}
use Rattle.run_theory.specs.Certificates.{Table}
use Rattle.mat_files.specs.Reading.{next_by}
use Rattle.mat_files.proofs.RepeatLaws.{repeated_many}
use Rattle.certificate.specs.CertificateText.{cell_at}
use Rattle.certificate.specs.Readable.{IsCell}
use Rattle.certificate.proofs.TableLaws.{length_table_rows, All-table_rows}
use Rattle.certificate.proofs.ReadLaws.{cells_are}
use Rattle.certificate.proofs.reading.fold.potentials.Goals as goal

pub new-requires : goal.new-requires
new-requires c =
    let product : c.from.result * c.from-2.result ≡ c.in_ok-rows.rows * c.in_ok-cols.cols =
    rw (c.from.ensures, c.from-2.ensures) refl in
    repeated_many (next_by cell_at) (c.from.result * c.from-2.result) c.width.new.tokens c.cells.new.tokens
    c.in_ok-cells.cells.items
    c.in_ok-cells.ensures.read ∙ product

pub returns-clause-rows : goal.returns-clause-rows
returns-clause-rows c =
    let rows = ap (λ (t : Table). length t.rows) c.new.ensures in
    let height = length_table_rows c.in_ok-rows.rows c.in_ok-cols.cols c.in_ok-cells.cells.items in
    omega (arith, rows, height, c.in_ok-rows.ensures.most)

pub returns-clause-product : goal.returns-clause-product
returns-clause-product c =
    subst (λ (t : Table). length t.rows * t.cols ≤ 2 ^ 20) (sym c.new.ensures)
    (rw (length_table_rows c.in_ok-rows.rows c.in_ok-cols.cols c.in_ok-cells.cells.items) c.in_ok-cols.ensures.product)

pub returns-clause-cells : goal.returns-clause-cells
returns-clause-cells c =
    subst (λ (t : Table). All (λ row. All IsCell row) t.rows) (sym c.new.ensures)
    (All-table_rows IsCell c.in_ok-rows.rows c.in_ok-cols.cols c.in_ok-cells.cells.items
    (cells_are (c.from.result * c.from-2.result) c.width.new.tokens c.cells.new.tokens c.in_ok-cells.cells.items
    c.in_ok-cells.ensures.read))
