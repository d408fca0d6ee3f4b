use Rattle.std.proofs.Common.{rules}
use Rattle.mat_files.specs.Reading.{repeated, IsTokenFault}
use Rattle.mat_files.proofs.RepeatLaws.{refused_so_far}
use Rattle.lattice_theory.specs.Matrices.{rows_of}
use Rattle.certificate.specs.CertificateText.{next_sum}
use Rattle.certificate.proofs.ReadLaws.{one_more_sum}
use Rattle.certificate.proofs.reading.fold.sum_rows.Goals as goal

pub returns-in_err-add_sum-clause-read : goal.returns-in_err-add_sum-clause-read
returns-in_err-add_sum-clause-read c =
    let refused : IsTokenFault (repeated (next_sum c.args.cols) c.args.rows c.args.tokens.now)
    c.in_err-add_sum.field-0.0 =
    refused_so_far (next_sum c.args.cols) c.loop.counter c.args.rows c.args.tokens.now c.loop.tokens
    (rows_of c.loop.counter c.args.cols c.loop.entries.items) _ c.loop-test.true c.loop.invariant.read
    c.in_err-add_sum.ensures in
    search (rules, refused)

pub loop-preserved : goal.loop-preserved
loop-preserved c =
    let more = one_more_sum c.args.cols c.loop.counter c.args.tokens.now c.loop.tokens c.add_sum.new.tokens
    c.loop.entries.items
    c.add_sum.new.entries.items c.loop.invariant.read c.loop.invariant.all c.in_ok-add_sum.ensures in
    record { read = more.0; all = more.1 }
