use Rattle.fold_files.specs.Reading.{program_in}
use Rattle.nfold_cli.specs.Words.{SolveForm}
use Rattle.nfold_cli.specs.SolveCommand.{IsSolveEnding, IsTrueSolve}
use Rattle.nfold_cli.proofs.AnswerLaws.{answer_made, answer_refused}
use Rattle.nfold_cli.proofs.CommandLaws.{solve_is_plain}
use Rattle.nfold_cli.proofs.commands.solve.answer_solve.Goals as goal

pub returns-in-Ok-clause-answer : goal.returns-in-Ok-clause-answer
returns-in-Ok-clause-answer g c =
    let prefix = c.args.prefix.now in
    let options = c.args.options in
    answer_made (SolveForm prefix c.args.workers options) prefix (λ fs. program_in fs prefix options.relations)
    (IsSolveEnding prefix options) (IsTrueSolve prefix options) (λ fs e is. is)
    (λ fs p e there holds. (p, there, holds)) (g.S.Shelf.seen c.args.shelf.now)
    (g.S.Shelf.seen c.read_program.new.shelf) c.outcome_of.result c.in-Ok.program c.in-Ok.ensures.program
    (λ e is. solve_is_plain prefix options c.in-Ok.program e is) c.outcome_of.ensures.ends c.outcome_of.ensures.holds

pub returns-in-Err-clause-answer : goal.returns-in-Err-clause-answer
returns-in-Err-clause-answer g c =
    let prefix = c.args.prefix.now in
    let options = c.args.options in
    answer_refused (SolveForm prefix c.args.workers options) prefix (λ fs. program_in fs prefix options.relations)
    (IsSolveEnding prefix options) (IsTrueSolve prefix options) (λ fs e is. is)
    (λ fs p e there holds. (p, there, holds)) (g.S.Shelf.seen c.args.shelf.now)
    (g.S.Shelf.seen c.read_program.new.shelf) c.refusal.result c.in-Err.fault c.refusal.ensures
    c.in-Err.ensures.refused
