use Rattle.std.proofs.Common.{rules}
use Rattle.nfold_cli.specs.Words.{PointForm, GraverForm, SolveForm, CheckForm, TrialForm}
use Rattle.nfold_cli.proofs.AnswerLaws.{by_form}
use Rattle.nfold_cli.proofs.CommandLaws.{trial_answered}
use Rattle.nfold_cli.proofs.answering.answer_words.Goals as goal

pub returns-in-Some-Point-clause-answer : goal.returns-in-Some-Point-clause-answer
returns-in-Some-Point-clause-answer g c =
    by_form c.answer_point.result (g.S.Shelf.seen c.args.shelf.now) _ _
    (PointForm c.in-Some-Point.prefix.now c.in-Some-Point.relations) (search rules) c.answer_point.ensures.answer

pub returns-in-Some-Graver-clause-answer : goal.returns-in-Some-Graver-clause-answer
returns-in-Some-Graver-clause-answer g c =
    by_form c.answer_graver.result (g.S.Shelf.seen c.args.shelf.now) _ _
    (GraverForm c.in-Some-Graver.prefix.now c.in-Some-Graver.limit) (search rules) c.answer_graver.ensures.answer

pub returns-in-Some-Check-clause-answer : goal.returns-in-Some-Check-clause-answer
returns-in-Some-Check-clause-answer g c =
    by_form c.answer_check.result (g.S.Shelf.seen c.args.shelf.now) _ _
    (CheckForm c.in-Some-Check.prefix.now c.in-Some-Check.relations) (search rules) c.answer_check.ensures.answer

pub returns-in-Some-Solve-clause-answer : goal.returns-in-Some-Solve-clause-answer
returns-in-Some-Solve-clause-answer g c =
    by_form c.answer_solve.result (g.S.Shelf.seen c.args.shelf.now) _ _
    (SolveForm c.in-Some-Solve.prefix.now c.in-Some-Solve.workers c.in-Some-Solve.options) (search rules)
    c.answer_solve.ensures.answer

pub returns-in-Some-Trial-clause-answer : goal.returns-in-Some-Trial-clause-answer
returns-in-Some-Trial-clause-answer g c =
    let number = c.in-Some-Trial.number in
    let bricks = c.in-Some-Trial.bricks in
    let before = g.S.Shelf.seen c.args.shelf.now in
    by_form c.answer_trial.result before before _ (TrialForm number bricks) (search rules)
    (trial_answered c.answer_trial.result number bricks before c.answer_trial.ensures.ends
    c.answer_trial.ensures.holds)
