use Rattle.nfold_cli.proofs.TrialLaws.{tried_found, no_limit}
use Rattle.nfold_cli.proofs.commands.trial.outcome_of.Goals as goal
use Rattle.nfold_cli.proofs.commands.trial.outcome_of.Goals.{in-Memory, in_default}

pub returns-in-Ok-clause-ends : goal.returns-in-Ok-clause-ends
returns-in-Ok-clause-ends g c =
    (tried_found c.args.number c.args.bricks c.tried.result c.args.program.now c.in-Ok.solved c.requires.made
    c.n.ensures.program c.in-Ok.ensures.solved c.tried.ensures).0

pub returns-in-Ok-clause-holds : goal.returns-in-Ok-clause-holds
returns-in-Ok-clause-holds g c =
    (tried_found c.args.number c.args.bricks c.tried.result c.args.program.now c.in-Ok.solved c.requires.made
    c.n.ensures.program c.in-Ok.ensures.solved c.tried.ensures).1

pub prove-unreachable-requires : goal.prove-unreachable-requires
prove-unreachable-requires g c =
    elim c.match-matches.branch [
      | in-Memory w ↦ cc
      | in_default w ↦
          no_limit c.args.number c.args.bricks c.args.program.now c.in-Err.fault c.requires.made c.requires.few
          c.in-Err.ensures.refused w.in_default.not-Memory
    ]
