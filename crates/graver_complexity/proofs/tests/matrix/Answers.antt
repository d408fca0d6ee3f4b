use Rattle.std.proofs.Common.{ap, refl, sym, subst}
use Rattle.std.specs.List.{All}
use Rattle.lattice_theory.specs.BasisLimits.{IsNarrow}
use Rattle.lattice_laws.proofs.Narrow.{narrow-rows_of}
use Rattle.graver_complexity.proofs.tests.matrix.Goals as goal

pub returns : goal.returns
returns c =
    subst (All IsNarrow) (sym (ap (λ m. m.rows) c.new.ensures))
    (narrow-rows_of c.args.rows c.args.cols c.in_ok-kept.kept.items
    (subst IsNarrow c.deref.ensures.value (c.if-not-is_narrow.ensures.0 refl)))
