use Rattle.std.proofs.Common.{◌≡◌, Ok}
use Rattle.mat_files.specs.Reading.{repeated, next_by}
use Rattle.certificate.specs.CertificateText.{cell_at}
use Rattle.certificate.proofs.reading.fold.cells.Given as goal

abbrev pub invariant-loop : goal.invariant-loop
invariant-loop l = repeated (next_by cell_at) l.counter l.fn.tokens ≡ Ok (l.cells.items, l.tokens)
