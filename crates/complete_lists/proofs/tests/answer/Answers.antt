use Rattle.std.proofs.Common.{ap, sym, subst, ◌+◌}
use Rattle.std.specs.List.{All}
use Rattle.lattice_theory.specs.BasisLimits.{IsNarrow}
use Rattle.lattice_laws.proofs.Narrow.{narrow-rows_of}
use Rattle.complete_lists.proofs.tests.answer.Goals as goal

pub is_complete-requires-clause-narrow : goal.is_complete-requires-clause-narrow
is_complete-requires-clause-narrow c =
    subst (All IsNarrow) (sym (ap (λ m. m.rows) c.new-matrix.ensures))
    (narrow-rows_of c.args.rows c.args.cols c.in_ok-entries.entries.items
    (subst IsNarrow c.deref.ensures.value c.if-not-is_narrow.ensures))

pub is_complete-requires-clause-narrower : goal.is_complete-requires-clause-narrower
is_complete-requires-clause-narrower c =
    subst (All IsNarrow) (sym (ap (λ m. m.rows) c.new-list.ensures))
    (narrow-rows_of c.args.count (c.cols-2.result + c.rows-2.result) c.in_ok-members.members.items
    (subst IsNarrow c.deref-else-not-is_narrow.ensures.value c.if-not-is_narrow-2.ensures))
