use Rattle.std.proofs.Common.{ℕ, List, subst, rules}
use Rattle.nfold_cli.specs.declared.status.Status.TheVariants as status
use Rattle.nfold_cli.specs.Endings.{IsWritten}
use Rattle.nfold_cli.specs.Answers.{IsSaid}
use Rattle.nfold_cli.proofs.GiveLaws.{gives_nothing}
use Rattle.nfold_cli.proofs.running.give.Goals as goal

pub returns-in-Err-Memory-clause-gives : goal.returns-in-Err-Memory-clause-gives
returns-in-Err-Memory-clause-gives g c =
    let written : IsWritten c.args.answer.now.status = search rules in
    let said =
    subst (λ (line : List ℕ). IsSaid (g.E.Sink.seen c.args.err.now) (g.E.Sink.seen c.say-in-Err-Memory.new.err) line
    status.Memory c.say-in-Err-Memory.result)
    c.memory_text.ensures c.say-in-Err-Memory.ensures.said in
    gives_nothing c.args.answer.now
    (record {
      folder = g.S.Shelf.seen c.args.shelf.now;
      out = g.K.Sink.seen c.args.out.now;
      err =
          g.E.Sink.seen c.args.err.now;
    })
    (record {
      folder = g.S.Shelf.seen c.hand_over.new.shelf;
      out = g.K.Sink.seen c.hand_over.new.out;
      err =
          g.E.Sink.seen c.say-in-Err-Memory.new.err;
    })
    c.say-in-Err-Memory.result written c.in-Err-Memory.ensures.part said
