use Rattle.std.proofs.Common.{rules, IsTrue, All, subst, sym}
use Rattle.lattice_theory.specs.Vectors.{is_bounded, IsBoundedRow}
use Rattle.lattice_theory.specs.Matrices.{Matrix}
use Rattle.fold_program.specs.Points.{IsNoPoint}
use Rattle.fold_program.proofs.PointLaws.{bounded_rows, point_shape, within_is_point}
use Rattle.fold_program.proofs.point.Point.new.Goals as goal

pub invariant_of-result : goal.invariant_of-result
invariant_of-result c =
    let all : All (λ a. IsTrue (is_bounded a)) c.args.entries.items = search rules in
    subst (λ (m : Matrix). All IsBoundedRow m.rows) (sym c.new.ensures)
    (bounded_rows c.n-rows.result c.t-cols.result c.args.entries.items all)

pub returns-clause-shape : goal.returns-clause-shape
returns-clause-shape c =
    point_shape c.args.program.now c.args.entries.items c.new.result.rows
    (record { size = search rules; small = search rules; value = search rules })

pub returns-then-len-from-clause-within : goal.returns-then-len-from-clause-within
returns-then-len-from-clause-within c size within =
    let none : IsNoPoint c.args.program.now c.args.entries.items = search rules in
    absurd (within_is_point c.args.program.now c.args.entries.items c.n-rows.ensures.bounded none size within)

pub returns-then-not-all-clause-within : goal.returns-then-not-all-clause-within
returns-then-not-all-clause-within c size within =
    let none : IsNoPoint c.args.program.now c.args.entries.items = search rules in
    absurd (within_is_point c.args.program.now c.args.entries.items c.n-rows.ensures.bounded none size within)
