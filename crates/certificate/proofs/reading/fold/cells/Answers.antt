use Rattle.std.proofs.Common.{◌≡◌, ◌++◌, ◌∷◌, [], Err, rules}
use Rattle.mat_files.specs.Reading.{repeated, next_by}
use Rattle.mat_files.proofs.RepeatLaws.{one_more_read, repeated_refused}
use Rattle.certificate.specs.CertificateText.{cell_at}
use Rattle.certificate.proofs.reading.fold.cells.Goals as goal

pub returns-in_err-cell : goal.returns-in_err-cell
returns-in_err-cell c =
    let refused : repeated (next_by cell_at) c.args.count c.args.tokens.now ≡ Err c.in_err-cell.field-0.0 =
    repeated_refused (next_by cell_at) c.loop.counter c.args.count c.args.tokens.now c.loop.tokens c.loop.cells.items _
    c.loop-test.true c.loop.invariant c.in_err-cell.ensures in
    search (rules, refused)

pub loop-preserved : goal.loop-preserved
loop-preserved c =
    let pushed : c.push.new.self.items ≡ c.loop.cells.items ++ c.in_ok-cell.field-0 ∷ [] = c.in_ok-push.ensures.items in
    rw pushed (one_more_read (next_by cell_at) c.loop.counter c.args.tokens.now c.loop.tokens c.cell.new.tokens
    c.loop.cells.items
    c.in_ok-cell.field-0 c.loop.invariant c.in_ok-cell.ensures)
