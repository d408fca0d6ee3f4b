use Rattle.std.proofs.Common.{ap, arith, length}
use Rattle.lattice_theory.specs.Matrices.{Matrix}
use Rattle.fold_laws.proofs.Points.{point-length}
use Rattle.fold_program.proofs.PointLaws.{shape_of}
use Rattle.augment_run.proofs.certifying.certificate_on_all.Goals as goal

pub point_rows-requires : goal.point_rows-requires
point_rows-requires c =
    shape_of c.args.program.now c.args.last.now.end.point c.n.ensures.program c.requires.ended.1.start.within

pub on_all_bricks-requires-clause-point_rows : goal.on_all_bricks-requires-clause-point_rows
on_all_bricks-requires-clause-point_rows c =
    let p = c.args.program.now in
    let x = c.args.last.now.end.point in
    omega (
      arith,
      ap (λ (m : Matrix). length m.rows) c.in_ok-point.ensures.matrix,
      point-length p.bricks x c.requires.ended.1.start.within,
      c.n.ensures.to,
      c.n.ensures.bricks,
    )
