use Rattle.std.proofs.Common.{◌≡◌, ◌+◌, ◌-◌, ◌<◌, ◌≤◌, ◌∙◌, Some, slice_get, ap, sym, subst, length, arith}
use Rattle.std.proofs.lemmas.Result.{err_from_is_err_and}
use Rattle.lattice_theory.specs.BasisLimits.{IsBasisWithin}
use Rattle.lattice_laws.proofs.Elements.{width, first_rows}
use Rattle.lattice_laws.proofs.UnitVectors.{first_units, without_rows}
use Rattle.pottier.specs.Stages.{AreFitting, IsCompleted}
use Rattle.pottier.proofs.RowLaws.{exceeds_by_units, units_fit, units_completed, row_narrow, width_first, first_all}
use Rattle.pottier.proofs.RowLaws.{first_fault, next_rows, sorted_fits, sorted_basis}
use Rattle.pottier.proofs.slack.slack_basis.Goals as goal

pub returns-then-cols-limit-clause-refused : goal.returns-then-cols-limit-clause-refused
returns-then-cols-limit-clause-refused c = exceeds_by_units c.args.a.now c.args.limit
    (omega (arith, c.if-cols-limit.true, c.cols.ensures.cols))

pub loop-row-init : goal.loop-row-init
loop-row-init c =
    let cols = c.args.a.now.cols in
    let units : c.in_ok-members.members ≡ first_units cols cols = c.in_ok-members.ensures
    ∙ ap (λ t. first_units t t) c.cols-2.ensures.cols in
    let none : cols ≡ cols + 0 = omega arith in
    record {
      fitting = subst (λ n. AreFitting n c.args.limit c.in_ok-members.members) none
          (subst (AreFitting cols c.args.limit) (sym units) (units_fit cols c.args.limit
          (omega (arith, c.if-cols-limit.false, c.cols.ensures.cols))));
      completed = subst (IsCompleted (without_rows cols)) (sym units) (units_completed cols);
    }

pub with_row-requires-clause-narrow : goal.with_row-requires-clause-narrow
with_row-requires-clause-narrow c =
    row_narrow c.args.a.now.rows c.loop-row.row (c.loop-row.row + 1 - 1) c.row.result.now c.requires.narrow
    (omega arith) (omega (arith, c.loop-row-test.true, c.rows-row-end.ensures)) c.row.ensures.entries

pub returns-in_err-members-2-clause-refused : goal.returns-in_err-members-2-clause-refused
returns-in_err-members-2-clause-refused c =
    let a = c.args.a.now in
    let n = c.loop-row.row in
    let low : n < length a.rows = omega (arith, c.loop-row-test.true, c.rows-row-end.ensures) in
    let place : n + 1 - 1 ≡ n = omega arith in
    let entries : slice_get a.rows n ≡ Some c.row.result.now = ap (slice_get a.rows) (sym place)
    ∙ c.row.ensures.entries in
    let size = width_first a n (omega arith) in
    let e = err_from_is_err_and c.from_residual-in_err-members-2.result c.from_residual-in_err-members-2.ensures.1 in
    rw (e.1, e.2) (first_fault a n c.args.limit c.row.result.now c.in_err-members-2.field-0.0
    (next_rows n a c.row.result.now low entries)
    (c.in_err-members-2.ensures.refused (first_rows n a) (sym c.row.ensures.width)
    (omega (arith, size, c.cols-in-loop-row.ensures.cols)) c.loop-row.invariant.completed))

pub loop-row-preserved : goal.loop-row-preserved
loop-row-preserved c =
    let a = c.args.a.now in
    let n = c.loop-row.row in
    let low : n < length a.rows = omega (arith, c.loop-row-test.true, c.rows-row-end.ensures) in
    let place : n + 1 - 1 ≡ n = omega arith in
    let entries : slice_get a.rows n ≡ Some c.row.result.now = ap (slice_get a.rows) (sym place)
    ∙ c.row.ensures.entries in
    let size = width_first a n (omega arith) in
    record {
      fitting = subst (λ k. AreFitting k c.args.limit c.in_ok-members-2.members)
          (omega (arith, c.cols-in-loop-row.ensures.cols)) c.in_ok-members-2.ensures.fitting;
      completed = subst (λ m. IsCompleted m c.in_ok-members-2.members) (next_rows n a c.row.result.now low entries)
          (c.in_ok-members-2.ensures.completed (first_rows n a) (sym c.row.ensures.width)
          (omega (arith, size, c.cols-in-loop-row.ensures.cols)) c.loop-row.invariant.completed);
    }

pub new-requires-clause-elements : goal.new-requires-clause-elements
new-requires-clause-elements c =
    let size : c.args.a.now.cols + c.loop-row.row ≡ width c.args.a.now = omega (
      arith,
      c.loop-row-test.false,
      c.loop-row.auto.row-end,
      c.rows-row-end.ensures,
    ) in
    (sorted_fits (width c.args.a.now) c.args.limit c.loop-row.members c.in_ok-sorted.field-0
    c.in_ok-sorted.ensures.permutation
    (subst (λ k. AreFitting k c.args.limit c.loop-row.members) size c.loop-row.invariant.fitting)).members

pub new-requires-clause-few : goal.new-requires-clause-few
new-requires-clause-few c =
    let fits = sorted_fits (c.args.a.now.cols + c.loop-row.row) c.args.limit c.loop-row.members c.in_ok-sorted.field-0
    c.in_ok-sorted.ensures.permutation c.loop-row.invariant.fitting in
    omega (arith, fits.short, c.requires.greatest)

pub returns-clause-basis : goal.returns-clause-basis
returns-clause-basis c =
    let a = c.args.a.now in
    let all : length a.rows ≤ c.loop-row.row = omega (arith, c.loop-row-test.false, c.rows-row-end.ensures) in
    subst (IsBasisWithin a c.args.limit) (sym c.in_ok-new.ensures.elements)
    (sorted_basis a (a.cols + c.loop-row.row) c.args.limit c.loop-row.members c.in_ok-sorted.field-0
    c.in_ok-sorted.ensures.permutation c.in_ok-sorted.ensures.sorted c.loop-row.invariant.fitting
    (subst (λ m. IsCompleted m c.loop-row.members) (first_all a c.loop-row.row all) c.loop-row.invariant.completed))
