use Rattle.std.proofs.Common.{rules, arith, ◌≡◌, ◌-◌, ◌∙◌, ap, map, Some, slice_get, ◌-ℤ◌, FitsSigned, w64, to_z}
use Rattle.std.specs.Int.{w128}
use Rattle.std.proofs.lemmas.Int.{ints, to_z-of_z, fits_signed_from_abs}
use Rattle.lattice_theory.specs.Lists.{total}
use Rattle.lattice_theory.specs.Vectors.{dot}
use Rattle.lattice_theory.specs.Matrices.{Matrix}
use Rattle.fold_program.proofs.ViewLaws.{links_are}
use Rattle.fold_program.proofs.SumLaws.{products_step, products_end, zip_with-at}
use Rattle.fold_program.proofs.program.Program.rest.Goals as goal

pub loop-brick-preserved : goal.loop-brick-preserved
loop-brick-preserved c =
    let product : FitsSigned w128 c.dot-rest.result = search rules in
    let difference : FitsSigned w128 (to_z w128 c.loop-brick.rest-bits -ℤ c.dot-rest.result) =
    fits_signed_from_abs w128 _ (omega (arith, ints, c.row-coefficients.ensures.width, c.self.invariant.cols_to)) in
    let next = products_step c.loop-brick.brick c.row-coefficients.result.now c.args.p.now c.brick.result.now
    c.loop-brick.invariant.from c.brick.ensures.vector in
    record {
      from = omega arith;
      left = simp to_z-of_z (omega (arith, ints, next, c.dot-rest.ensures.value));
      small = simp to_z-of_z (omega (arith, ints, c.row-coefficients.ensures.width, c.self.invariant.cols_to));
    }

pub returns-2-clause-rest : goal.returns-2-clause-rest
returns-2-clause-rest c =
    let product : FitsSigned w128 c.dot-rest.result = search rules in
    let difference : FitsSigned w128 (to_z w128 c.loop-brick.rest-bits -ℤ c.dot-rest.result) =
    fits_signed_from_abs w128 _ (omega (arith, ints, c.row-coefficients.ensures.width, c.self.invariant.cols_to)) in
    let right : FitsSigned w64 c.right_link.result = search rules in
    let begin : FitsSigned w128 c.from-rest.result = search rules in
    let first = simp to_z-of_z at c.loop-brick.invariant.left in
    let from = simp to_z-of_z at c.from-rest.ensures in
    let next = products_step c.loop-brick.brick c.row-coefficients.result.now c.args.p.now c.brick.result.now
    c.loop-brick.invariant.from c.brick.ensures.vector in
    let end = products_end c.loop-brick.brick c.row-coefficients.result.now c.args.p.now
    (omega (arith, c.requires.shape.bricks, c.n-brick-end.ensures.bricks)) in
    let links = ap (λ (m : Matrix). slice_get m.rows (c.args.row - 1))
    (links_are _ _ c.self.invariant c.self.view_is) in
    let is = zip_with-at (λ row right. right -ℤ total (map (dot row) c.args.p.now)) _ _ (c.args.row - 1) _ _
    (links ∙ c.row-coefficients.ensures.entries) c.right_link.ensures in
    let value : (c.right_link.result -ℤ total (map (dot c.row-coefficients.result.now) c.args.p.now))
    ≡ (to_z w128 c.loop-brick.rest-bits -ℤ c.dot-rest.result) =
    omega (arith, ints, next, end, c.dot-rest.ensures.value, first, from) in
    simp to_z-of_z (is ∙ ap Some value)

pub returns-2-clause-small : goal.returns-2-clause-small
returns-2-clause-small c =
    let product : FitsSigned w128 c.dot-rest.result = search rules in
    let difference : FitsSigned w128 (to_z w128 c.loop-brick.rest-bits -ℤ c.dot-rest.result) =
    fits_signed_from_abs w128 _ (omega (arith, ints, c.row-coefficients.ensures.width, c.self.invariant.cols_to)) in
    simp to_z-of_z
    (omega (arith, ints, c.row-coefficients.ensures.width, c.self.invariant.cols_to, c.n-brick-end.ensures.to))
