use Rattle.std.proofs.Common.{◌≡◌, ◌^◌, true, subst, sym, Bool, List, ℕ, refl, rules}
use Rattle.fold_files.specs.RelationText.{parsed_relations, IsRelationFault}
use Rattle.fold_files.specs.Reading.{bytes_of, as_relations, relations_of}
use Rattle.fold_files.specs.Faults.{relations_fault}
use Rattle.fold_files.specs.Causes.{IsReadCause}
use Rattle.fold_program.specs.declared.FileKind.TheVariants.{Relations}
use Rattle.fold_files.proofs.CauseLaws.{relations_refused, of_error}
use Rattle.fold_files.proofs.files.read_relations.Goals as goal

pub returns-in_err-parse_relations-clause-refused : goal.returns-in_err-parse_relations-clause-refused
returns-in_err-parse_relations-clause-refused g c =
    let fault = c.in_err-parse_relations.field-0.0 in
    let parsed = subst (λ (bytes : List ℕ). IsRelationFault (parsed_relations c.args.r bytes) fault)
    c.deref.ensures.value c.in_err-parse_relations.ensures.parsed in
    let asked : c.args.asked ≡ true = search rules in
    of_error c.from_residual-in_err-parse_relations.result (relations_fault fault)
    (IsReadCause (λ fs. relations_of fs c.args.prefix.now c.args.asked c.args.r) (g.S.Shelf.seen c.args.shelf.now)
    (g.S.Shelf.seen c.read_bytes.new.shelf) c.args.prefix.now)
    c.from_residual-in_err-parse_relations.ensures.1
    (subst (λ (b : Bool). IsReadCause (λ fs. relations_of fs c.args.prefix.now b c.args.r)
    (g.S.Shelf.seen c.args.shelf.now) (g.S.Shelf.seen c.read_bytes.new.shelf) c.args.prefix.now
    (relations_fault fault)) (sym asked)
    (relations_refused (g.S.Shelf.seen c.args.shelf.now) (g.S.Shelf.seen c.read_bytes.new.shelf) c.args.prefix.now
    (λ fs. bytes_of fs c.args.prefix.now Relations (2 ^ 26)) c.in_ok-bytes.bytes.items
    c.in_ok-bytes.ensures.bytes (parsed_relations c.args.r) as_relations (λ f. refl) fault parsed))
