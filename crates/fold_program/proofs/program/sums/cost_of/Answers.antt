use Rattle.std.proofs.Common.{rules, arith, get_or, pos, ◌+ℤ◌, FitsSigned, w64, to_z}
use Rattle.std.specs.Int.{w128}
use Rattle.std.proofs.lemmas.Int.{ints, to_z-of_z, fits_signed_from_abs}
use Rattle.lattice_laws.proofs.Places.{drop-entry}
use Rattle.fold_program.proofs.CostLaws.{in_range_step, cost_step, magnitude_step, length-in_range, drop-read}
use Rattle.fold_program.proofs.program.sums.cost_of.Goals as goal

pub loop-at-preserved : goal.loop-at-preserved
loop-at-preserved c =
    let entry : FitsSigned w64 (get_or c.args.vector.now c.loop-at.at (pos 0)) = search rules in
    let value : FitsSigned w128 c.value-sum.result = search rules in
    let long = length-in_range c.args.costs.now c.args.vector.now c.requires.within in
    let front = drop-read c.args.costs.now c.loop-at.at c.index-costs-at.result c.loop-at-test.true
    c.index-costs-at.is in
    let first = drop-entry c.args.vector.now c.loop-at.at (pos 0) (omega (arith, long, c.loop-at-test.true)) in
    let weight = magnitude_step _ _ _ front in
    let is = simp to_z-of_z at c.value-sum.ensures.value in
    let sum : FitsSigned w128 (to_z w128 c.loop-at.sum-bits +ℤ c.value-sum.result) =
    fits_signed_from_abs w128 _
    (omega (arith, ints, weight, c.value-sum.ensures.small, c.loop-at.invariant.small, c.requires.few)) in
    let next = cost_step _ _ _ _ _ c.index-costs-at.result (get_or c.args.vector.now c.loop-at.at (pos 0)) _ front first
    c.loop-at.invariant.so_far in
    record {
      within = (in_range_step _ _ _ _ _ _ front first c.loop-at.invariant.within).1;
      so_far = simp to_z-of_z (rw is next);
      small = simp to_z-of_z (omega (arith, ints, weight, c.value-sum.ensures.small, c.loop-at.invariant.small));
    }
