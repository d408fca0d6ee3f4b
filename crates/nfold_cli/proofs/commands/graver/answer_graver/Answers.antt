use Rattle.std.proofs.Common.{None}
use Rattle.fold_files.specs.Reading.{plain_in}
use Rattle.nfold_cli.specs.Words.{GraverForm}
use Rattle.nfold_cli.specs.GraverCommand.{IsKernelEnding}
use Rattle.nfold_cli.proofs.AnswerLaws.{answer_made, answer_refused}
use Rattle.nfold_cli.proofs.CommandLaws.{kernel_is_plain, IsAnything, anything}
use Rattle.nfold_cli.proofs.commands.graver.answer_graver.Goals as goal

pub returns-in-Ok-clause-answer : goal.returns-in-Ok-clause-answer
returns-in-Ok-clause-answer g c =
    let prefix = c.args.prefix.now in
    answer_made (GraverForm prefix c.args.limit) prefix (λ fs. plain_in fs prefix) (IsKernelEnding c.args.limit)
    IsAnything (λ fs e is. is)
    (λ fs m e there holds. tt) (g.S.Shelf.seen c.args.shelf.now) (g.S.Shelf.seen c.read_plain.new.shelf)
    c.kernel_of.result c.in-Ok.matrix c.in-Ok.ensures.matrix
    (λ e is. kernel_is_plain None c.args.limit c.in-Ok.matrix e is) c.kernel_of.ensures (anything c.kernel_of.result)

pub returns-in-Err-clause-answer : goal.returns-in-Err-clause-answer
returns-in-Err-clause-answer g c =
    let prefix = c.args.prefix.now in
    answer_refused (GraverForm prefix c.args.limit) prefix (λ fs. plain_in fs prefix) (IsKernelEnding c.args.limit)
    IsAnything (λ fs e is. is)
    (λ fs m e there holds. tt) (g.S.Shelf.seen c.args.shelf.now) (g.S.Shelf.seen c.read_plain.new.shelf)
    c.refusal.result c.in-Err.fault c.refusal.ensures c.in-Err.ensures.refused
