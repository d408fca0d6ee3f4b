use Rattle.std.proofs.Common.{ap, sym, ◌∙◌}
use Rattle.round_workers.specs.Workers.{WorkerValue}
use Rattle.round_workers.proofs.Known.{none_gain}
use Rattle.round_workers.proofs.workers.tried.Goals as goal

pub passed_over-requires-clause-none : goal.passed_over-requires-clause-none
passed_over-requires-clause-none g c _ _ =
    let known = ap (λ (v : WorkerValue). v.at_best) (sym c.worker.view_is) ∙ c.if-worker.true in
    none_gain c.args.task.now.fold.now c.args.task.now.point.now g.N.Gains.gains c.requires.gains c.args.k
    c.requires.length (c.requires.best known c.args.k)
