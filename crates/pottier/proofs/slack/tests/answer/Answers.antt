use Rattle.std.proofs.Common.{ap, sym, subst}
use Rattle.std.specs.List.{All}
use Rattle.lattice_theory.specs.BasisLimits.{IsNarrow}
use Rattle.lattice_laws.proofs.Narrow.{narrow-rows_of}
use Rattle.pottier.proofs.slack.tests.answer.Goals as goal

pub slack_basis-requires-clause-narrow : goal.slack_basis-requires-clause-narrow
slack_basis-requires-clause-narrow c =
    subst (All IsNarrow) (sym (ap (λ m. m.rows) c.new-a.ensures))
    (narrow-rows_of c.args.rows c.args.cols c.in_ok-kept.kept.items
    (subst IsNarrow c.deref.ensures.value c.if-not-is_narrow.ensures))
