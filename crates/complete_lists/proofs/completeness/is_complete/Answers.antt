use Rattle.std.proofs.Common.{◌≡◌, ◌∙◌, sym, ap}
use Rattle.std.proofs.lemmas.Result.{IfOk-weaker}
use Rattle.lattice_theory.specs.Lattices.{is_complete_for}
use Rattle.criterion_laws.specs.Prefixes.{clashes_settle}
use Rattle.complete_lists.proofs.CriterionLaws.{not_listed, all_listed}
use Rattle.complete_lists.proofs.completeness.is_complete.Goals as goal

pub returns-then-not-branch : goal.returns-then-not-branch
returns-then-not-branch c =
    not_listed c.args.matrix.now c.args.basis.now.rows (sym c.in_ok-units_are_listed.ensures ∙ c.if-not-branch.true)

pub returns : goal.returns
returns c =
    let m = c.args.matrix.now in
    let basis = c.args.basis.now.rows in
    IfOk-weaker c.clashes_settle.result
    (λ b. b ≡ clashes_settle c.cols.result basis basis)
    (λ b. b ≡ is_complete_for m basis)
    (λ b is. is ∙ ap (λ k. clashes_settle k basis basis) c.cols.ensures.cols
    ∙ all_listed m basis (sym c.are_elements.ensures ∙ c.if-not-are_elements.false)
    (sym c.is_rising.ensures ∙ c.if-not-is_rising.false)
    (sym c.in_ok-units_are_listed.ensures ∙ c.if-not-branch.false))
    c.clashes_settle.ensures
