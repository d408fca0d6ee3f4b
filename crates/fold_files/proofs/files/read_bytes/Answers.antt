use Rattle.std.proofs.Common.{◌∙◌}
use Rattle.fold_files.proofs.CauseLaws.{load_refused}
use Rattle.fold_files.proofs.files.read_bytes.Goals as goal

pub returns-clause-refused : goal.returns-clause-refused
returns-clause-refused g c =
    rw c.of_load.ensures (load_refused (g.S.Shelf.seen c.args.shelf.now) (g.S.Shelf.seen c.load.new.shelf)
    c.args.prefix.now c.deref.result.now c.args.file c.args.most c.in-Err.fault
    (c.deref.ensures ∙ c.in_ok-name.ensures) c.in-Err.ensures.cause)
