use Rattle.std.proofs.Common.{◌^◌, subst, List, ℕ, refl}
use Rattle.fold_files.specs.CostText.{parsed_costs, IsCostFileFault}
use Rattle.fold_files.specs.Reading.{bytes_of, as_costs, costs_of}
use Rattle.fold_files.specs.Faults.{costs_fault}
use Rattle.fold_files.specs.Causes.{IsReadCause}
use Rattle.fold_program.specs.declared.FileKind.TheVariants.{Costs}
use Rattle.fold_files.proofs.CauseLaws.{costs_refused, of_error}
use Rattle.fold_files.proofs.files.read_costs.Goals as goal

pub returns-in_err-parse_costs-clause-refused : goal.returns-in_err-parse_costs-clause-refused
returns-in_err-parse_costs-clause-refused g c =
    let fault = c.in_err-parse_costs.field-0.0 in
    let parsed = subst (λ (bytes : List ℕ). IsCostFileFault (parsed_costs c.args.n c.args.t bytes) fault)
    c.deref.ensures.value c.in_err-parse_costs.ensures.parsed in
    of_error c.from_residual-in_err-parse_costs.result (costs_fault fault)
    (IsReadCause (λ fs. costs_of fs c.args.prefix.now c.args.n c.args.t) (g.S.Shelf.seen c.args.shelf.now)
    (g.S.Shelf.seen c.read_bytes.new.shelf) c.args.prefix.now) c.from_residual-in_err-parse_costs.ensures.1
    (costs_refused (g.S.Shelf.seen c.args.shelf.now) (g.S.Shelf.seen c.read_bytes.new.shelf) c.args.prefix.now
    (λ fs. bytes_of fs c.args.prefix.now Costs (2 ^ 26)) c.in_ok-bytes.bytes.items
    c.in_ok-bytes.ensures.bytes (parsed_costs c.args.n c.args.t) as_costs (λ f. refl) fault parsed)
