use Rattle.std.proofs.Common.{ℕ, ◌^◌, List, subst}
use Rattle.mat_files.specs.MatrixText.{parsed_matrix, IsMatFault}
use Rattle.fold_files.specs.Reading.{bytes_of}
use Rattle.mat_files.proofs.ShapeLaws.{parsed_admits}
use Rattle.fold_files.proofs.CauseLaws.{form_refused}
use Rattle.fold_files.proofs.files.read_matrix.Goals as goal

pub returns-in-Ok-clause-shape : goal.returns-in-Ok-clause-shape
returns-in-Ok-clause-shape g c = parsed_admits c.args.shape.now c.deref.result.now c.in-Ok.matrix c.in-Ok.ensures

pub returns-clause-refused : goal.returns-clause-refused
returns-clause-refused g c =
    let parsed = parsed_matrix c.args.shape.now in
    let is = subst (λ (bytes : List ℕ). IsMatFault (parsed bytes) c.in-Err.fault) c.deref.ensures.value c.in-Err.ensures
    in
    rw c.of_form.ensures (form_refused (g.S.Shelf.seen c.args.shelf.now) (g.S.Shelf.seen c.read_bytes.new.shelf)
    c.args.prefix.now (λ fs. bytes_of fs c.args.prefix.now c.args.file (2 ^ 26))
    c.in_ok-bytes.bytes.items c.in_ok-bytes.ensures.bytes c.args.file parsed c.in-Err.fault is)
