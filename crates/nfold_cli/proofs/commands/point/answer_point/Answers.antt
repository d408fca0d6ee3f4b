use Rattle.std.proofs.Common.{None}
use Rattle.nfold_cli.specs.Words.{PointForm}
use Rattle.nfold_cli.specs.PointCommand.{pointed_in, IsPointEnding, IsTruePoint}
use Rattle.nfold_cli.proofs.AnswerLaws.{answer_made, answer_refused}
use Rattle.nfold_cli.proofs.CommandLaws.{verdict_is_plain}
use Rattle.nfold_cli.proofs.commands.point.answer_point.Goals as goal

pub returns-in-Ok-clause-answer : goal.returns-in-Ok-clause-answer
returns-in-Ok-clause-answer g c =
    let prefix = c.args.prefix.now in
    answer_made (PointForm prefix c.args.relations) prefix (pointed_in prefix c.args.relations) IsPointEnding
    IsTruePoint (λ fs e is. is)
    (λ fs a e there holds. (a, there, holds)) (g.S.Shelf.seen c.args.shelf.now)
    (g.S.Shelf.seen c.read_pointed.new.shelf) c.verdict.result
    (record { program = c.in-Ok.program; point = c.in-Ok.point }) c.in-Ok.ensures.pointed
    (λ e is. verdict_is_plain None c.in-Ok.program c.in-Ok.point e is) c.verdict.ensures.ends c.verdict.ensures.holds

pub returns-in-Err-clause-answer : goal.returns-in-Err-clause-answer
returns-in-Err-clause-answer g c =
    let prefix = c.args.prefix.now in
    answer_refused (PointForm prefix c.args.relations) prefix (pointed_in prefix c.args.relations) IsPointEnding
    IsTruePoint (λ fs e is. is)
    (λ fs a e there holds. (a, there, holds)) (g.S.Shelf.seen c.args.shelf.now)
    (g.S.Shelf.seen c.read_pointed.new.shelf) c.refusal.result c.in-Err.fault c.refusal.ensures
    c.in-Err.ensures.refused
