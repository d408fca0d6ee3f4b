use Rattle.std.proofs.Common.{map, inl}
use Rattle.nfold_cli.specs.Words.{form_of}
use Rattle.nfold_cli.proofs.GiveLaws.{answer_after, ending_of_form, gives_before}
use Rattle.nfold_cli.proofs.running.perform.Goals as goal

pub give-requires : goal.give-requires
give-requires g c =
    ending_of_form (form_of (map (λ w. w.items) c.args.words.now)) c.in-Ok.answer.status
    c.in-Ok.ensures.answer.status

pub returns-in-Ok-clause-runs : goal.returns-in-Ok-clause-runs
returns-in-Ok-clause-runs g c =
    let before = g.S.Shelf.seen c.args.shelf.now in
    let mid = g.S.Shelf.seen c.answer_words.new.shelf in
    let now = g.S.Shelf.seen c.give.new.shelf in
    inl (
      c.in-Ok.answer,
      answer_after (form_of (map (λ w. w.items) c.args.words.now)) before mid now c.in-Ok.answer
          c.give.ensures.writes.reads c.in-Ok.ensures.answer,
      gives_before c.in-Ok.answer before mid now (g.K.Sink.seen c.args.out.now) (g.K.Sink.seen c.give.new.out)
          (g.E.Sink.seen c.args.err.now)
          (g.E.Sink.seen c.give.new.err) c.in-Ok.ensures.reads c.give.result c.give.ensures.gives,
    )
