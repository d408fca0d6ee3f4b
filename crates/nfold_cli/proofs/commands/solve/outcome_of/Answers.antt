use Rattle.std.proofs.Common.{ℕ, ◌^◌, ◌≤◌, subst}
use Rattle.nfold_cli.specs.SolveCommand.{caps_of, solved_ending}
use Rattle.nfold_cli.proofs.SolvedLaws.{solved_short, solve_found, limit_found}
use Rattle.nfold_cli.proofs.commands.solve.outcome_of.Goals as goal

pub certified-requires : goal.certified-requires
certified-requires g c =
    solved_short c.args.program.now (caps_of c.args.options) c.in-Ok.solved c.in-Ok.ensures.solved
    (subst (λ (w : ℕ). w ≤ 2 ^ 63) c.widest.ensures.widest c.widest.ensures.small)

pub returns-in-Ok-clause-ends : goal.returns-in-Ok-clause-ends
returns-in-Ok-clause-ends g c =
    (solve_found c.certified.result c.args.program.now c.args.prefix.now c.args.options c.in-Ok.solved
    c.n.ensures.program c.in-Ok.ensures.solved c.certified.ensures).0

pub returns-in-Ok-clause-holds : goal.returns-in-Ok-clause-holds
returns-in-Ok-clause-holds g c =
    (solve_found c.certified.result c.args.program.now c.args.prefix.now c.args.options c.in-Ok.solved
    c.n.ensures.program c.in-Ok.ensures.solved c.certified.ensures).1

pub returns-in-Err-clause-ends : goal.returns-in-Err-clause-ends
returns-in-Err-clause-ends g c =
    let p = c.args.program.now in
    let options = c.args.options in
    (limit_found c.limit_answer.result p (caps_of options)
    (solved_ending c.args.prefix.now options.trace p.brick.cols) c.in-Err.fault c.limit_answer.ensures.found
    c.in-Err.ensures.refused c.limit_answer.ensures.ending).0

pub returns-in-Err-clause-holds : goal.returns-in-Err-clause-holds
returns-in-Err-clause-holds g c =
    let p = c.args.program.now in
    let options = c.args.options in
    (limit_found c.limit_answer.result p (caps_of options)
    (solved_ending c.args.prefix.now options.trace p.brick.cols) c.in-Err.fault c.limit_answer.ensures.found
    c.in-Err.ensures.refused c.limit_answer.ensures.ending).1
