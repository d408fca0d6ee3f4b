use Rattle.std.proofs.Common.{rules, arith, ◌≡◌, ◌+◌, ◌-◌, ◌-ℤ◌, ◌∙◌, ap, pos, get_or, unsigned_abs, FitsSigned, w64}
use Rattle.std.proofs.lemmas.Int.{to_z-of_z}
use Rattle.std.proofs.lemmas.List.Sums.{sum_by-cons}
use Rattle.lattice_theory.specs.Vectors.{dot, norm1}
use Rattle.fold_program.proofs.BreakLaws.{rests_from, rests_step}
use Rattle.fold_program.proofs.program.bricks.residual_of.Goals as goal

pub loop-at-preserved : goal.loop-at-preserved
loop-at-preserved c =
    let entry = get_or c.args.right.now c.loop-at.at (pos 0) in
    let right : FitsSigned w64 entry = search rules in
    let here : c.missed-residual.result ≡ unsigned_abs (entry -ℤ dot c.row.result.now c.args.vector.now) =
    simp to_z-of_z at c.missed-residual.ensures.value in
    let at : c.loop-at.at + 1 - 1 ≡ c.loop-at.at = omega arith in
    let step = rests_step c.loop-at.at c.args.right.now c.args.matrix.now.rows c.args.vector.now c.row.result.now
    (pos 0) (search rules) (rw at at c.row.ensures.entries) in
    let left = rests_from (c.loop-at.at + 1) c.args.right.now c.args.matrix.now.rows c.args.vector.now in
    let sum = ap norm1 step ∙ sum_by-cons unsigned_abs (entry -ℤ dot c.row.result.now c.args.vector.now) left in
    record {
      all = omega (arith, c.loop-at.invariant.all, sum, here);
      small = omega (arith, c.loop-at.invariant.small, c.missed-residual.ensures.small);
    }
