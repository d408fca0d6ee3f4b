use Rattle.lattice_theory.specs.Vectors.{IsBoundedRow}
use Rattle.lattice_laws.proofs.Places.{slice_get-All}
use Rattle.cert_checker.proofs.checking.check_brick.Goals as goal

pub no_step_helps-requires-clause-bounded : goal.no_step_helps-requires-clause-bounded
no_step_helps-requires-clause-bounded c =
    let there = rw c.point.ensures.point at c.row-x.ensures.entries in
    slice_get-All IsBoundedRow c.args.c.now.point.rows 0 c.row-x.result.now there c.point.ensures.bounded
