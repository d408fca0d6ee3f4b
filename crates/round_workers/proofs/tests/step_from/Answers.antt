use Rattle.round_workers.proofs.TableLaws.{feasible_task}
use Rattle.round_workers.proofs.tests.step_from.Goals as goal

pub round-requires-clause-task : goal.round-requires-clause-task
round-requires-clause-task g c κs within =
    feasible_task c.in-Some-new.fold c.args.program.now c.in-Some.point c.in_ok-sums.sums c.in_ok-menus.menus
    c.in-Some-new.ensures.1 c.in_ok-sums.ensures.sums c.in-None.ensures.none c.in_ok-menus.ensures
