use Rattle.std.proofs.Common.{◌≡◌, ◌&&◌, ◌∙◌, sym, ap, subst, drop, true}
use Rattle.std.specs.List.{list_all}
use Rattle.lattice_theory.specs.Vectors.{opposite}
use Rattle.std.proofs.lemmas.Result.{IfOk-weaker}
use Rattle.criterion_laws.specs.Prefixes.{clash_settles, pair_settles}
use Rattle.complete_lists.specs.Searches.{FitsRows}
use Rattle.complete_lists.proofs.ElementLaws.{FitsRows-opposite}
use Rattle.complete_lists.proofs.ClashLaws.{pairs-signs}
use Rattle.complete_lists.proofs.clashes.Settlers.row_settles.Goals as goal

pub signed_settles-requires-2 : goal.signed_settles-requires-2
signed_settles-requires-2 c =
    subst (FitsRows c.args.self.now.basis) (sym (c.deref.ensures.value ∙ c.in_ok-turned.ensures))
    (FitsRows-opposite c.args.self.now.basis c.args.f.now c.requires)

pub returns-then-not-branch : goal.returns-then-not-branch
returns-then-not-branch c =
    let basis = c.args.self.now.basis.rows in
    let fs = drop c.args.from basis in
    let test = clash_settles c.args.self.now.cols basis in
    sym (pairs-signs c.args.self.now.cols basis c.args.f.now fs
    ∙ ap (λ t. t && list_all (test (opposite c.args.f.now)) fs)
    (sym c.in_ok-signed_settles.ensures ∙ c.if-not-branch.true))

pub returns : goal.returns
returns c =
    let basis = c.args.self.now.basis.rows in
    let f = c.args.f.now in
    let fs = drop c.args.from basis in
    let test = clash_settles c.args.self.now.cols basis in
    let first : list_all (test f) fs ≡ true = sym c.in_ok-signed_settles.ensures ∙ c.if-not-branch.false in
    let second : list_all (test (opposite f)) fs ≡ list_all (pair_settles c.args.self.now.cols basis f) fs =
    sym (pairs-signs c.args.self.now.cols basis f fs ∙ ap (λ t. t && list_all (test (opposite f)) fs) first) in
    IfOk-weaker c.signed_settles-2.result
    (λ b. b ≡ list_all (test c.deref.result.now) fs)
    (λ b. b ≡ list_all (pair_settles c.args.self.now.cols basis f) fs)
    (λ b is. is ∙ ap (λ v. list_all (test v) fs) (c.deref.ensures.value ∙ c.in_ok-turned.ensures) ∙ second)
    c.signed_settles-2.ensures
