use Rattle.std.proofs.Common.{subst, All, length, ◌≡◌}
use Rattle.std.proofs.lemmas.List.Elements.{All-from_recursion}
use Rattle.lattice_theory.specs.Matrices.{Matrix}
use Rattle.mat_files.proofs.MatrixLaws.{even_rows}
use Rattle.mat_files.proofs.matrix.Matrix.cols.Goals as goal

pub returns-clause-each_row : goal.returns-clause-each_row
returns-clause-each_row c =
    subst (λ (m : Matrix). All (λ row. length row ≡ c.self.inside.cols) m.rows) c.self.view_is
    (All-from_recursion (λ row. length row ≡ c.self.inside.cols) _ (even_rows _ _ _ c.self.invariant))
