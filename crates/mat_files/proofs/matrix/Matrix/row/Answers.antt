use Rattle.std.proofs.Common.{arith, ap, ◌∙◌, sym, length, ◌-◌, ◌≤◌, slice_get}
use Rattle.lattice_laws.proofs.VectorLists.{length_rows_of}
use Rattle.mat_files.proofs.MatrixLaws.{row_read}
use Rattle.mat_files.proofs.matrix.Matrix.row.Goals as goal

pub returns-clause-entries : goal.returns-clause-entries
returns-clause-entries c =
    let rows = ap (λ m. length m.rows) c.self.view_is in
    let to : c.args.row ≤ c.self.inside.rows = omega (
      arith,
      rows,
      length_rows_of c.self.inside.rows c.self.inside.cols
          c.self.inside.entries.items,
      c.requires.to,
    ) in
    sym (ap (λ m. slice_get m.rows (c.args.row - 1)) c.self.view_is) ∙ row_read _ _ _ _ _ c.requires.from to
    c.deref.ensures.value
