use Rattle.std.proofs.Common.{ap, sym, subst}
use Rattle.std.specs.List.{All}
use Rattle.lattice_theory.specs.BasisLimits.{IsNarrow}
use Rattle.lattice_laws.proofs.Narrow.{narrow-rows_of}
use Rattle.brick_phase.proofs.NarrowLaws.{bounded_rows}
use Rattle.brick_phase.proofs.settling.tests.matrix.Goals as goal

pub returns-clause-narrow : goal.returns-clause-narrow
returns-clause-narrow c =
    subst (All IsNarrow) (sym (ap (λ m. m.rows) c.new.ensures))
    (narrow-rows_of c.args.rows c.args.cols c.in_ok-kept.kept.items
    (subst IsNarrow c.deref.ensures.value c.if-not-is_small.ensures))

pub returns-clause-bounded : goal.returns-clause-bounded
returns-clause-bounded c =
    bounded_rows c.new.result.rows (subst (All IsNarrow) (sym (ap (λ m. m.rows) c.new.ensures))
    (narrow-rows_of c.args.rows c.args.cols c.in_ok-kept.kept.items
    (subst IsNarrow c.deref.ensures.value c.if-not-is_small.ensures)))
