use Rattle.lattice_theory.specs.Matrices.{Matrix}
use Rattle.fold_theory.specs.Programs.{Program}
use Rattle.fold_program.specs.declared.FileKind.TheVariants.{Point}
use Rattle.fold_files.specs.Reading.{point_in}
use Rattle.fold_files.proofs.CauseLaws.{of_error, cause_before}
use Rattle.nfold_cli.specs.PointCommand.{Pointed, pointed_in}
use Rattle.fold_files.specs.Causes.{IsReadCause}
use Rattle.nfold_cli.proofs.ReadLaws.{after_program, point_is_beside}
use Rattle.nfold_cli.proofs.commands.point.read_pointed.Goals as goal

-- what is made of both
abbrev pointed : Program → Matrix → Pointed
pointed p x = record { program = p; point = x.rows }

pub returns-in_err-point-clause-refused : goal.returns-in_err-point-clause-refused
returns-in_err-point-clause-refused g c =
    let prefix = c.args.prefix.now in
    let p = c.in_ok-program.program in
    let fault = c.in_err-point.field-0.0 in
    let cause = cause_before (g.S.Shelf.seen c.args.shelf.now) (g.S.Shelf.seen c.read_program.new.shelf)
    c.read_program.ensures.reads (g.S.Shelf.seen c.read_point.new.shelf) (λ fs. point_in fs prefix p) prefix fault
    c.in_err-point.ensures.refused in
    of_error c.from_residual-in_err-point.result fault
    (IsReadCause (λ fs. pointed_in prefix c.args.relations fs) (g.S.Shelf.seen c.args.shelf.now)
    (g.S.Shelf.seen c.read_point.new.shelf) prefix)
    c.from_residual-in_err-point.ensures.1
    (after_program (λ p fs. point_in fs prefix p) pointed c.args.relations (g.S.Shelf.seen c.args.shelf.now)
    (g.S.Shelf.seen c.read_point.new.shelf) prefix fault Point p point_is_beside
    c.in_ok-program.ensures.program c.in_err-point.ensures.file cause)
