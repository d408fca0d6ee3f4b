use Rattle.std.proofs.Common.{◌&&◌, ◌∙◌, sym, ap, nat_eq}
use Rattle.lattice_laws.proofs.Tests.{nat_eq_of}
use Rattle.cert_checker.proofs.ShapeLaws.{has_shape-even}
use Rattle.cert_checker.proofs.shapes.has_shape.Goals as goal

pub returns-then-rows : goal.returns-then-rows
returns-then-rows c =
    let rows = nat_eq_of _ _ (sym c.rows.ensures ∙ c.if-rows.true) in
    let widths = rw c.cols.ensures.cols at c.cols.ensures.each_row in
    ap (λ n. nat_eq n c.args.cols) c.cols.ensures.cols
    ∙ ap (λ t. t && nat_eq c.args.matrix.now.cols c.args.cols) (sym rows)
    ∙ sym (has_shape-even c.args.rows c.args.cols c.args.matrix.now widths)
