use Rattle.std.proofs.Common.{◌≡◌, ◌+◌, ◌-◌, ◌≤◌, ◌∙◌, Some, slice_get, ap, sym, subst, length, arith, flat_map, All}
use Rattle.lattice_theory.specs.Vectors.{Vector, IsBoundedRow}
use Rattle.lattice_theory.specs.Matrices.{Matrix}
use Rattle.fold_program.proofs.PointLaws.{bounded_rows}
use Rattle.pottier.proofs.BasisLaws.{entries_fit, rows_again}
use Rattle.augment_run.proofs.RowLists.{PointUpTo, flat_all, point_more}
use Rattle.augment_run.proofs.certifying.point_rows.Goals as goal

pub loop-i-preserved : goal.loop-i-preserved
loop-i-preserved c =
    let x = c.args.point.now in
    let v = c.brick.result.now in
    let at : c.loop-i.i + 1 - 1 ≡ c.loop-i.i = omega arith in
    let there : slice_get x c.loop-i.i ≡ Some v = ap (slice_get x) (sym at) ∙ c.brick.ensures.vector in
    subst (PointUpTo x (c.loop-i.i + 1)) (sym c.in_ok-extend_from_slice.ensures.items)
    (point_more x c.loop-i.i v c.loop-i.entries.items there c.brick.ensures.bounded c.loop-i.invariant)

all : (c : goal.After-t) → c.loop-i.entries.items ≡ flat_map (λ r. r) c.args.point.now
all c =
    let x = c.args.point.now in
    let done : length x ≤ c.loop-i.i = omega (arith, c.loop-i-test.false, c.n-rows.ensures.bricks, c.requires.bricks) in
    flat_all x c.loop-i.i c.loop-i.entries.items done c.loop-i.invariant.so_far

count : (c : goal.After-t) → c.n-rows.result ≡ length c.args.point.now
count c = c.n-rows.ensures.bricks ∙ sym c.requires.bricks

wide : (c : goal.After-t) → All (λ (v : Vector). length v ≡ c.t.result) c.args.point.now
wide c = subst (λ n. All (λ (v : Vector). length v ≡ n) c.args.point.now) (sym c.t.ensures.cols) c.requires.widths

pub new-requires : goal.new-requires
new-requires c =
    entries_fit c.n-rows.result c.t.result c.args.point.now c.loop-i.entries.items (count c) (all c) (wide c)

pub returns-clause-matrix : goal.returns-clause-matrix
returns-clause-matrix c =
    let x = c.args.point.now in
    let cols = c.t.ensures.brick_cols in
    let rows = rows_again c.n-rows.result c.t.result x c.loop-i.entries.items (count c.before) (all c.before)
    (wide c.before) in
    c.new.ensures ∙ (λ i. record { cols = cols i; rows = rows i })

pub returns-clause-bounded : goal.returns-clause-bounded
returns-clause-bounded c =
    subst (λ (m : Matrix). All IsBoundedRow m.rows) (sym c.new.ensures)
    (bounded_rows c.n-rows.result c.t.result c.loop-i.entries.items c.loop-i.invariant.bounded)
