use Rattle.std.proofs.Common.{◌≡◌, ◌*◌, length, Ok}
use Rattle.lattice_theory.specs.Matrices.{rows_of}
use Rattle.mat_files.specs.Reading.{repeated}
use Rattle.certificate.specs.CertificateText.{next_sum}
use Rattle.certificate.proofs.reading.fold.sum_rows.Given as goal

abbrev pub invariant-loop : goal.invariant-loop
invariant-loop l = record {
  read : repeated (next_sum l.cols) l.counter l.fn.tokens ≡ Ok (rows_of l.counter l.cols l.entries.items, l.tokens);
  all : length l.entries.items ≡ l.counter * l.cols;
}
