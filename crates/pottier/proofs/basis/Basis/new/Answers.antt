use Rattle.std.proofs.Common.{◌∙◌, sym, subst}
use Rattle.lattice_laws.proofs.Elements.{width}
use Rattle.pottier.specs.Stages.{AreMembers}
use Rattle.pottier.proofs.BasisLaws.{entries_fit, matrix_again}
use Rattle.pottier.proofs.basis.Basis.new.Goals as goal

pub new-requires : goal.new-requires
new-requires c =
    entries_fit c.rows.result c.cols.result c.args.matrix.now.rows c.in_ok-entries.entries.items c.rows.ensures
    (c.in_ok-entries.ensures.items ∙ c.entries.ensures) c.cols.ensures.each_row

pub invariant_of-result : goal.invariant_of-result
invariant_of-result c =
    let same = c.new.ensures ∙ matrix_again c.args.matrix.now c.rows.result c.cols.result c.in_ok-entries.entries.items
    c.rows.ensures c.cols.ensures.cols (c.in_ok-entries.ensures.items ∙ c.entries.ensures)
    c.cols.ensures.each_row in
    record {
      elements = subst (λ m. AreMembers (width m) c.args.elements) (sym same) c.requires.elements;
      few = c.requires.few;
    }

pub returns-clause-matrix : goal.returns-clause-matrix
returns-clause-matrix c =
    c.new.ensures ∙ matrix_again c.args.matrix.now c.rows.result c.cols.result c.in_ok-entries.entries.items
    c.rows.ensures c.cols.ensures.cols (c.in_ok-entries.ensures.items ∙ c.entries.ensures) c.cols.ensures.each_row
