use Rattle.std.proofs.Common.{arith, ap, length, sym, subst, All}
use Rattle.lattice_theory.specs.Matrices.{Matrix, rows_of}
use Rattle.lattice_laws.proofs.VectorLists.{length_rows_of}
use Rattle.certificate.specs.Readable.{IsSumRow}
use Rattle.certificate.proofs.ReadLaws.{sums_are}
use Rattle.certificate.proofs.reading.fold.sums.Goals as goal

pub returns-clause-rows : goal.returns-clause-rows
returns-clause-rows c =
    let rows = ap (λ (m : Matrix). length m.rows) c.new.ensures in
    let height = length_rows_of c.in_ok-rows.rows c.in_ok-cols.cols c.in_ok-entries.entries.items in
    omega (arith, rows, height, c.in_ok-rows.ensures.most)

pub returns-clause-entries : goal.returns-clause-entries
returns-clause-entries c =
    subst (λ (m : Matrix). All IsSumRow m.rows) (sym c.new.ensures)
    (sums_are c.in_ok-cols.cols c.in_ok-rows.rows c.size-2.new.tokens c.sum_rows.new.tokens
    (rows_of c.in_ok-rows.rows c.in_ok-cols.cols c.in_ok-entries.entries.items) c.in_ok-entries.ensures.read)
