use Rattle.cert_checker.proofs.YesLaws.{yes_holds}
use Rattle.cert_checker.proofs.checking.check.Goals as goal

pub returns-in-Optimal-Some-clause-holds : goal.returns-in-Optimal-Some-clause-holds
returns-in-Optimal-Some-clause-holds c = yes_holds c.check_fold.result c.args.program.now c.args.c.now
    c.n-bricks.ensures.program c.check_fold.ensures.answer

pub returns-in-InfeasibleLink-Some-clause-holds : goal.returns-in-InfeasibleLink-Some-clause-holds
returns-in-InfeasibleLink-Some-clause-holds c = yes_holds c.check_fold-in-InfeasibleLink-Some.result c.args.program.now
    c.args.c.now c.n-bricks.ensures.program c.check_fold-in-InfeasibleLink-Some.ensures.answer

pub returns-in-InfeasibleBrick-default-clause-holds : goal.returns-in-InfeasibleBrick-default-clause-holds
returns-in-InfeasibleBrick-default-clause-holds c = yes_holds c.check_brick.result c.args.program.now c.args.c.now
    c.n-bricks.ensures.program c.check_brick.ensures.answer
