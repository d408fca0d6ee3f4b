use Rattle.std.proofs.Common.{◌∷◌, [], sym, subst}
use Rattle.std.proofs.lemmas.Result.{err_from_is_err_and}
use Rattle.lattice_laws.proofs.Elements.{with_rows}
use Rattle.pottier.specs.Stages.{IsStage}
use Rattle.pottier.proofs.RowLaws.{stage_started, exceeds_by_product, extended_fits, limit_only}
use Rattle.pottier.proofs.slack.with_row.Goals as goal

pub returns-in_err-members-clause-refused : goal.returns-in_err-members-clause-refused
returns-in_err-members-clause-refused c =
    λ m cols size done.
    let e = err_from_is_err_and c.from_residual.result c.from_residual.ensures.1 in
    rw (e.1, e.2) (limit_only _ _ (λ w. exceeds_by_product m c.args.row.now cols c.args.limit c.args.members.now w.0
    done w.1 w.2) c.in_err-members.field-0.0 c.in_err-members.ensures.refused)

pub complete-requires-clause-fitting : goal.complete-requires-clause-fitting
complete-requires-clause-fitting c =
    extended_fits c.args.at c.args.limit c.args.row.now c.args.members.now c.in_ok-members.members c.requires.fitting
    c.in_ok-members.ensures.products c.in_ok-members.ensures.narrow

pub returns-in_err-complete-clause-refused : goal.returns-in_err-complete-clause-refused
returns-in_err-complete-clause-refused c =
    λ m cols size done.
    let stage = subst (IsStage (with_rows m (c.args.row.now ∷ [])) c.args.at) (sym c.in_ok-members.ensures.products)
    (stage_started m c.args.row.now cols c.args.at c.args.members.now size done) in
    let e = err_from_is_err_and c.from_residual-in_err-complete.result c.from_residual-in_err-complete.ensures.1 in
    rw (e.1, e.2) (c.in_err-complete.ensures.refused (with_rows m (c.args.row.now ∷ [])) stage)

pub returns-clause-completed : goal.returns-clause-completed
returns-clause-completed c =
    λ m cols size done.
    c.in_ok-complete.ensures.completed (with_rows m (c.args.row.now ∷ []))
    (subst (IsStage (with_rows m (c.args.row.now ∷ [])) c.args.at) (sym c.in_ok-members.ensures.products)
    (stage_started m c.args.row.now cols c.args.at c.args.members.now size done))
