use Rattle.std.proofs.Common.{◌≡◌, ℕ, List, IfOk, None, subst}
use Rattle.nfold_cli.specs.Words.{CheckForm}
use Rattle.nfold_cli.specs.CheckCommand.{claimed_in, certificate_ending, IsCheckEnding, IsTrueCheck}
use Rattle.nfold_cli.proofs.AnswerLaws.{answer_made, answer_refused}
use Rattle.nfold_cli.proofs.CommandLaws.{certificate_is_plain}
use Rattle.nfold_cli.proofs.commands.check.answer_check.Goals as goal

pub returns-in-Ok-clause-answer : goal.returns-in-Ok-clause-answer
returns-in-Ok-clause-answer g c =
    let prefix = c.args.prefix.now in
    let p = c.in-Ok.program in
    let ends = subst (λ (b : List ℕ). IfOk c.confirm.result (λ e. e ≡ certificate_ending prefix p b))
    c.deref.ensures.value c.confirm.ensures.ends in
    let holds = subst (λ (b : List ℕ). IfOk c.confirm.result (IsTrueCheck (record { program = p; bytes = b })))
    c.deref.ensures.value c.confirm.ensures.holds in
    answer_made (CheckForm prefix c.args.relations) prefix (claimed_in prefix c.args.relations) (IsCheckEnding prefix)
    IsTrueCheck (λ fs e is. is)
    (λ fs a e there holds. (a, there, holds)) (g.S.Shelf.seen c.args.shelf.now)
    (g.S.Shelf.seen c.read_claimed.new.shelf) c.confirm.result
    (record { program = p; bytes = c.in-Ok.bytes.items }) c.in-Ok.ensures.claimed
    (λ e is. certificate_is_plain None prefix p c.in-Ok.bytes.items e is) ends holds

pub returns-in-Err-clause-answer : goal.returns-in-Err-clause-answer
returns-in-Err-clause-answer g c =
    let prefix = c.args.prefix.now in
    answer_refused (CheckForm prefix c.args.relations) prefix (claimed_in prefix c.args.relations)
    (IsCheckEnding prefix) IsTrueCheck (λ fs e is. is)
    (λ fs a e there holds. (a, there, holds)) (g.S.Shelf.seen c.args.shelf.now)
    (g.S.Shelf.seen c.read_claimed.new.shelf) c.refusal.result c.in-Err.fault c.refusal.ensures
    c.in-Err.ensures.refused
