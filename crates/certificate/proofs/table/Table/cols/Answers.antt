use Rattle.std.proofs.Common.{subst, All, length, ◌≡◌}
use Rattle.std.proofs.lemmas.List.Elements.{All-from_recursion}
use Rattle.run_theory.specs.Certificates.{Table}
use Rattle.certificate.proofs.TableLaws.{even_rows}
use Rattle.certificate.proofs.table.Table.cols.Goals as goal

pub returns-clause-each_row : goal.returns-clause-each_row
returns-clause-each_row c =
    subst (λ (t : Table). All (λ row. length row ≡ c.self.inside.cols) t.rows) c.self.view_is
    (All-from_recursion (λ row. length row ≡ c.self.inside.cols) _ (even_rows _ _ _ c.self.invariant))
