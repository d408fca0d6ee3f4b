use Rattle.std.proofs.Common.{arith, ◌≤◌, ◌<◌, ◌^◌, ◌-◌, sym, ap, ◌∙◌, length, min, sum_by, subst, List}
use Rattle.std.proofs.lemmas.Result.{err_from_is_err_and}
use Rattle.lattice_theory.specs.Vectors.{Vector, IsBoundedRow}
use Rattle.fold_theory.specs.declared.Cost.{Cost}
use Rattle.fold_theory.specs.Programs.{IsProgram}
use Rattle.fold_program.specs.Parts.{program_of, fold_of}
use Rattle.fold_program.specs.Bounds.{cost_magnitude}
use Rattle.fold_program.proofs.PartsLaws.{bounded_flat, lowers_are, uppers_are, few_costs, refused_crossed}
use Rattle.fold_program.proofs.PartsLaws.{is_program_fault, refused_sum, small_sum, accepted, is_program, is_related}
use Rattle.fold_program.proofs.PartsLaws.{is_kept}
use Rattle.fold_program.proofs.program.Program.new.Goals as goal

pub first_crossed-requires : goal.first_crossed-requires
first_crossed-requires c =
    ap length c.entries.ensures ∙ lowers_are c.args.parts c.in_default.ensures.first c.in_default.ensures.even
    ∙ sym (ap length c.entries-2.ensures ∙ uppers_are c.args.parts c.in_default.ensures.first c.in_default.ensures.even)

pub of-brick-requires-clause-few : goal.of-brick-requires-clause-few
of-brick-requires-clause-few c =
    let lowers = ap length c.entries.ensures
    ∙ lowers_are c.args.parts c.in_default.ensures.first c.in_default.ensures.even in
    let few = few_costs c.args.parts c.in_default.ensures.first c.in_default.ensures.even in
    omega (arith, lowers, few, c.in-Some-first_crossed.ensures.inside)

pub returns-in-Some-first_crossed-clause-refused : goal.returns-in-Some-first_crossed-clause-refused
returns-in-Some-first_crossed-clause-refused c =
    let first = rw (c.entries.ensures, c.entries-2.ensures) at c.in-Some-first_crossed.ensures.first in
    let inside = rw c.entries.ensures at c.in-Some-first_crossed.ensures.inside in
    let refused = refused_crossed c.args.parts c.in_default.ensures.first c.in_default.ensures.even _ inside first in (
      sym c.in_default.ensures.first,
      rw (c.of-brick.ensures.brick, c.of-brick.ensures.col, c.cols-cols.ensures.cols) refused,
    )

pub bound_costs-requires-clause-lowers : goal.bound_costs-requires-clause-lowers
bound_costs-requires-clause-lowers c =
    ap length c.entries-3.ensures ∙ lowers_are c.args.parts c.in_default.ensures.first c.in_default.ensures.even

pub bound_costs-requires-clause-uppers : goal.bound_costs-requires-clause-uppers
bound_costs-requires-clause-uppers c =
    ap length c.entries-4.ensures ∙ uppers_are c.args.parts c.in_default.ensures.first c.in_default.ensures.even

pub bound_costs-requires-clause-few : goal.bound_costs-requires-clause-few
bound_costs-requires-clause-few c =
    few_costs c.args.parts c.in_default.ensures.first c.in_default.ensures.even

pub bound_costs-requires-clause-low : goal.bound_costs-requires-clause-low
bound_costs-requires-clause-low c =
    subst (λ (v : Vector). IsBoundedRow v) (sym c.entries-3.ensures)
    (bounded_flat c.args.parts.lower.rows c.requires.limits.lower)

pub bound_costs-requires-clause-high : goal.bound_costs-requires-clause-high
bound_costs-requires-clause-high c =
    subst (λ (v : Vector). IsBoundedRow v) (sym c.entries-4.ensures)
    (bounded_flat c.args.parts.upper.rows c.requires.limits.upper)

pub returns-in_err-costs-clause-refused : goal.returns-in_err-costs-clause-refused
returns-in_err-costs-clause-refused c =
    let uncrossed = rw (c.entries.ensures, c.entries-2.ensures) at c.in_default-first_crossed.ensures.none in
    let refused =
    rw (c.cols-cols.ensures.cols, c.entries-3.ensures, c.entries-4.ensures) at c.in_err-costs.ensures.refused in
    let out = err_from_is_err_and c.from_residual.result c.from_residual.ensures.1 in
    rw (out.1, out.2)
    (is_program_fault c.args.parts c.in_default.ensures.first c.in_default.ensures.even uncrossed
    c.in_err-costs.field-0.0 refused)

pub returns-then-total_magnitude-gt-LARGEST-clause-refused : goal.returns-then-total_magnitude-gt-LARGEST-clause-refused
returns-then-total_magnitude-gt-LARGEST-clause-refused c =
    let uncrossed = rw (c.entries.ensures, c.entries-2.ensures) at c.in_default-first_crossed.ensures.none in
    let bound = rw (c.entries-3.ensures, c.entries-4.ensures) at c.in_ok-costs.ensures.bound in
    let large : 2 ^ 120 < min (sum_by cost_magnitude c.in_ok-costs.costs.items) (2 ^ 128 - 1) =
    rw (sym c.deref.ensures.value, sym c.total_magnitude.ensures) c.if-total_magnitude-gt-LARGEST.true in (
      sym c.in_default.ensures.first,
      refused_sum c.args.parts c.in_default.ensures.first c.in_default.ensures.even c.in_ok-costs.costs.items bound
          uncrossed large,
    )

pub invariant_of-result : goal.invariant_of-result
invariant_of-result c =
    let bound = rw (c.entries-3.ensures, c.entries-4.ensures) at c.in_ok-costs.ensures.bound in
    let small : min (sum_by cost_magnitude c.in_ok-costs.costs.items) (2 ^ 128 - 1) ≤ 2 ^ 120 =
    rw (sym c.deref.ensures.value, sym c.total_magnitude.ensures) c.if-total_magnitude-gt-LARGEST.false in
    is_kept c.args.parts c.in_default.ensures.first c.in_default.ensures.even c.requires.limits c.in_ok-costs.costs
    bound small c.in_ok-relations.relations
    (omega (arith, c.in_ok-relations.ensures.len, c.rows.ensures))

pub returns-clause-accepted : goal.returns-clause-accepted
returns-clause-accepted c =
    let uncrossed = rw (c.entries.ensures, c.entries-2.ensures) at c.in_default-first_crossed.ensures.none in
    let bound = rw (c.entries-3.ensures, c.entries-4.ensures) at c.in_ok-costs.ensures.bound in
    let small : min (sum_by cost_magnitude c.in_ok-costs.costs.items) (2 ^ 128 - 1) ≤ 2 ^ 120 =
    rw (sym c.deref.ensures.value, sym c.total_magnitude.ensures) c.if-total_magnitude-gt-LARGEST.false in
    let total = small_sum c.args.parts c.in_default.ensures.first c.in_default.ensures.even c.in_ok-costs.costs.items
    bound small in (
      sym c.in_default.ensures.first,
      accepted c.args.parts c.in_default.ensures.first c.in_default.ensures.even c.in_ok-costs.costs.items bound
          uncrossed total,
    )

pub returns-clause-program : goal.returns-clause-program
returns-clause-program c =
    let bound = rw (c.entries-3.ensures, c.entries-4.ensures) at c.in_ok-costs.ensures.bound in
    let program =
    is_program c.args.parts c.in_default.ensures.first c.in_default.ensures.even c.in_ok-costs.costs.items bound in
    subst (λ (costs : List Cost). IsProgram
    (fold_of c.args.parts.link c.args.parts.brick c.args.parts.lower c.args.parts.upper c.args.parts.right
    c.in_ok-relations.relations.items costs))
    (sym bound.costs_are) (is_related (program_of c.args.parts) c.in_ok-relations.relations.items program
    (omega (arith, c.in_ok-relations.ensures.len, c.rows.ensures)))
