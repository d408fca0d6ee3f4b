use Rattle.std.proofs.Common.{ℕ, List}
use Rattle.fold_theory.specs.Programs.{Program}
use Rattle.fold_program.specs.declared.FileKind.TheVariants.{Cert}
use Rattle.fold_files.specs.Reading.{certificate_in}
use Rattle.fold_files.specs.Causes.{IsReadCause}
use Rattle.fold_files.proofs.CauseLaws.{of_error, cause_before}
use Rattle.nfold_cli.specs.CheckCommand.{Claimed, claimed_in}
use Rattle.nfold_cli.proofs.ReadLaws.{after_program, certificate_is_beside}
use Rattle.nfold_cli.proofs.commands.check.read_claimed.Goals as goal

-- what is made of both
abbrev claimed : Program → List ℕ → Claimed
claimed p bytes = record { program = p; bytes = bytes }

pub returns-in_err-bytes-clause-refused : goal.returns-in_err-bytes-clause-refused
returns-in_err-bytes-clause-refused g c =
    let prefix = c.args.prefix.now in
    let fault = c.in_err-bytes.field-0.0 in
    let cause = cause_before (g.S.Shelf.seen c.args.shelf.now) (g.S.Shelf.seen c.read_program.new.shelf)
    c.read_program.ensures.reads (g.S.Shelf.seen c.read_certificate.new.shelf) (λ fs. certificate_in fs prefix)
    prefix fault
    c.in_err-bytes.ensures.refused in
    of_error c.from_residual-in_err-bytes.result fault
    (IsReadCause (λ fs. claimed_in prefix c.args.relations fs) (g.S.Shelf.seen c.args.shelf.now)
    (g.S.Shelf.seen c.read_certificate.new.shelf) prefix)
    c.from_residual-in_err-bytes.ensures.1
    (after_program (λ p fs. certificate_in fs prefix) claimed c.args.relations (g.S.Shelf.seen c.args.shelf.now)
    (g.S.Shelf.seen c.read_certificate.new.shelf) prefix fault Cert c.in_ok-program.program certificate_is_beside
    c.in_ok-program.ensures.program c.in_err-bytes.ensures.file cause)
