use Rattle.std.proofs.Common.{map}
use Rattle.nfold_cli.proofs.RunLaws.{form_answered, ends, reads_fail, writes_fail, leaves, changes, keeps, is_quiet}
use Rattle.nfold_cli.proofs.RunLaws.{says, tells_truth}
use Rattle.nfold_cli.proofs.running.run.Goals as goal

pub returns-clause-form : goal.returns-clause-form
returns-clause-form g c =
    form_answered (map (λ w. w.items) c.args.words.now)
    (record {
      folder = g.S.Shelf.seen c.args.shelf.now;
      out = g.K.Sink.seen c.args.out.now;
      err =
          g.E.Sink.seen c.args.err.now;
    })
    (record {
      folder = g.S.Shelf.seen c.perform.new.shelf;
      out = g.K.Sink.seen c.perform.new.out;
      err =
          g.E.Sink.seen c.perform.new.err;
    }) c.perform.result c.perform.ensures.runs

pub returns-clause-ending : goal.returns-clause-ending
returns-clause-ending g c =
    ends (map (λ w. w.items) c.args.words.now) (record {
      folder = g.S.Shelf.seen c.args.shelf.now;
      out = g.K.Sink.seen c.args.out.now;
      err =
          g.E.Sink.seen c.args.err.now;
    })
    (record {
      folder = g.S.Shelf.seen c.perform.new.shelf;
      out = g.K.Sink.seen c.perform.new.out;
      err =
          g.E.Sink.seen c.perform.new.err;
    }) c.perform.result c.perform.ensures.runs

pub returns-clause-read : goal.returns-clause-read
returns-clause-read g c =
    reads_fail (map (λ w. w.items) c.args.words.now) (record {
      folder = g.S.Shelf.seen c.args.shelf.now;
      out = g.K.Sink.seen c.args.out.now;
      err =
          g.E.Sink.seen c.args.err.now;
    })
    (record {
      folder = g.S.Shelf.seen c.perform.new.shelf;
      out = g.K.Sink.seen c.perform.new.out;
      err =
          g.E.Sink.seen c.perform.new.err;
    }) c.perform.result c.perform.ensures.runs

pub returns-clause-write : goal.returns-clause-write
returns-clause-write g c =
    writes_fail (map (λ w. w.items) c.args.words.now) (record {
      folder = g.S.Shelf.seen c.args.shelf.now;
      out = g.K.Sink.seen c.args.out.now;
      err =
          g.E.Sink.seen c.args.err.now;
    })
    (record {
      folder = g.S.Shelf.seen c.perform.new.shelf;
      out = g.K.Sink.seen c.perform.new.out;
      err =
          g.E.Sink.seen c.perform.new.err;
    }) c.perform.result c.perform.ensures.runs

pub returns-clause-left : goal.returns-clause-left
returns-clause-left g c =
    leaves (map (λ w. w.items) c.args.words.now) (record {
      folder = g.S.Shelf.seen c.args.shelf.now;
      out = g.K.Sink.seen c.args.out.now;
      err =
          g.E.Sink.seen c.args.err.now;
    })
    (record {
      folder = g.S.Shelf.seen c.perform.new.shelf;
      out = g.K.Sink.seen c.perform.new.out;
      err =
          g.E.Sink.seen c.perform.new.err;
    }) c.perform.result c.perform.ensures.runs

pub returns-clause-files : goal.returns-clause-files
returns-clause-files g c =
    changes (map (λ w. w.items) c.args.words.now) (record {
      folder = g.S.Shelf.seen c.args.shelf.now;
      out = g.K.Sink.seen c.args.out.now;
      err =
          g.E.Sink.seen c.args.err.now;
    })
    (record {
      folder = g.S.Shelf.seen c.perform.new.shelf;
      out = g.K.Sink.seen c.perform.new.out;
      err =
          g.E.Sink.seen c.perform.new.err;
    }) c.perform.result c.perform.ensures.runs

pub returns-clause-kept : goal.returns-clause-kept
returns-clause-kept g c =
    keeps (map (λ w. w.items) c.args.words.now) (record {
      folder = g.S.Shelf.seen c.args.shelf.now;
      out = g.K.Sink.seen c.args.out.now;
      err =
          g.E.Sink.seen c.args.err.now;
    })
    (record {
      folder = g.S.Shelf.seen c.perform.new.shelf;
      out = g.K.Sink.seen c.perform.new.out;
      err =
          g.E.Sink.seen c.perform.new.err;
    }) c.perform.result c.perform.ensures.runs

pub returns-clause-quiet : goal.returns-clause-quiet
returns-clause-quiet g c =
    is_quiet (map (λ w. w.items) c.args.words.now) (record {
      folder = g.S.Shelf.seen c.args.shelf.now;
      out = g.K.Sink.seen c.args.out.now;
      err =
          g.E.Sink.seen c.args.err.now;
    })
    (record {
      folder = g.S.Shelf.seen c.perform.new.shelf;
      out = g.K.Sink.seen c.perform.new.out;
      err =
          g.E.Sink.seen c.perform.new.err;
    }) c.perform.result c.perform.ensures.runs

pub returns-clause-said : goal.returns-clause-said
returns-clause-said g c =
    says (map (λ w. w.items) c.args.words.now) (record {
      folder = g.S.Shelf.seen c.args.shelf.now;
      out = g.K.Sink.seen c.args.out.now;
      err =
          g.E.Sink.seen c.args.err.now;
    })
    (record {
      folder = g.S.Shelf.seen c.perform.new.shelf;
      out = g.K.Sink.seen c.perform.new.out;
      err =
          g.E.Sink.seen c.perform.new.err;
    }) c.perform.result c.perform.ensures.runs

pub returns-clause-holds : goal.returns-clause-holds
returns-clause-holds g c =
    tells_truth (map (λ w. w.items) c.args.words.now) (record {
      folder = g.S.Shelf.seen c.args.shelf.now;
      out = g.K.Sink.seen c.args.out.now;
      err =
          g.E.Sink.seen c.args.err.now;
    })
    (record {
      folder = g.S.Shelf.seen c.perform.new.shelf;
      out = g.K.Sink.seen c.perform.new.out;
      err =
          g.E.Sink.seen c.perform.new.err;
    }) c.perform.result c.perform.ensures.runs
