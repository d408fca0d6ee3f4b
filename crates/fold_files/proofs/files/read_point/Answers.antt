use Rattle.std.proofs.Common.{◌≡◌, subst, ap, sym, ◌∙◌, Ok, length}
use Rattle.mat_files.specs.declared.Shape.{Shape}
use Rattle.mat_files.specs.MatrixText.{Admits}
use Rattle.fold_files.proofs.ToldLaws.{ForTold-weaker}
use Rattle.fold_program.specs.declared.FileKind.TheVariants.{Point}
use Rattle.fold_files.specs.Reading.{exactly, matrix_of}
use Rattle.fold_files.proofs.PointLaws.{FitsPoint, is_point, point_matrix_is, point_shape}
use Rattle.fold_files.proofs.files.read_point.Goals as goal
use Rattle.fold_files.proofs.files.read_point.Goals.{After-new}

-- the file was read with the shape of a point
shape_is : (g : _) (c : After-new g) → c.shape.result ≡ exactly (length c.args.program.now.bricks)
    c.args.program.now.link.cols
shape_is g c = c.shape.ensures ∙ (λ i. exactly (c.n-n.ensures.bricks i) (c.t-t.ensures.cols i))

fits : (g : _) (c : After-new g) → FitsPoint c.args.program.now c.in_ok-matrix.matrix
fits g c = subst (λ (s : Shape). Admits s c.in_ok-matrix.matrix) (shape_is g c) c.in_ok-matrix.ensures.shape

pub unreachable-requires : goal.unreachable-requires
unreachable-requires g c =
    is_point c.args.program.now c.in_ok-matrix.matrix (fits g (goal.at.unreachable-requires g c).After-new)
    c.into_entries.result.items c.into_entries.ensures c.in-None.ensures.refused

pub returns-clause-point : goal.returns-clause-point
returns-clause-point g c =
    let new = (goal.at.returns-clause-point g c).After-new in
    let same = point_matrix_is c.args.program.now c.in_ok-matrix.matrix (fits g new) c.into_entries.result.items
    c.in-Some.point c.into_entries.ensures c.in-Some.ensures.made in
    ForTold-weaker _ _ _ (λ fs read. ap (matrix_of fs c.args.prefix.now Point) (sym (shape_is g new)) ∙ read ∙
    ap Ok same) c.in_ok-matrix.ensures.matrix

pub returns-clause-shape : goal.returns-clause-shape
returns-clause-shape g c =
    point_shape c.args.program.now c.in_ok-matrix.matrix (fits g (goal.at.returns-clause-shape g c).After-new)
    c.into_entries.result.items c.in-Some.point c.into_entries.ensures c.in-Some.ensures.made
