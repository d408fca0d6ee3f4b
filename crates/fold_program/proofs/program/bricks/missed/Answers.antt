use Rattle.std.proofs.Common.{arith, rules, ◌≡◌, length, ◌-ℤ◌, FitsSigned, to_z, w64, ◌⊎◌, inl, inr, length-append, ap}
use Rattle.std.proofs.Common.{unsigned_abs, ◌∙◌}
use Rattle.std.specs.Int.{w128}
use Rattle.std.proofs.lemmas.Int.{ints, to_z-of_z, fits_signed_from_abs}
use Rattle.fold_program.proofs.RestLaws.{rest-step, rest-done}
use Rattle.fold_program.proofs.program.bricks.missed.Goals as goal

pub loop-a-preserved : goal.loop-a-preserved
loop-a-preserved c =
    let fx : FitsSigned w64 c.in-Some.a.now = search rules in
    let fy : FitsSigned w64 c.in-Some.x.now = search rules in
    let value = simp to_z-of_z at c.times-rest.ensures.value in
    let ft : FitsSigned w128 c.times-rest.result = search rules in
    let fs : FitsSigned w128 (to_z w128 c.loop-a.rest-bits -ℤ c.times-rest.result) =
    fits_signed_from_abs w128 _ (omega (arith, ints, ap length c.in-Some.ensures.steps.1)) in
    let next = rest-step _ _ _ _ _ _ _ _ c.in-Some.ensures.steps.0 c.in-Some.ensures.steps.1
    c.loop-a.invariant.so_far in
    record {
      so_far = simp to_z-of_z (omega (arith, ints, value, next));
      read = simp length-append (omega (arith, ap length c.in-Some.ensures.steps.1));
      small = simp (to_z-of_z, length-append) (omega (arith, ints));
    }

pub returns-clause-value : goal.returns-clause-value
returns-clause-value c =
    let ended : (length c.loop-a.a-iterator.a.rest.now ≡ 0) ⊎ (length c.loop-a.a-iterator.b.rest.now ≡ 0) =
    elim c.in-None.ensures.steps [ inl p ↦ inl p.1.0 | inr p ↦ inr p.1.0 ] in
    let right : FitsSigned w64 c.args.right = c.ranges.right in
    let so_far = simp to_z-of_z at c.loop-a.invariant.so_far in
    c.unsigned_abs.ensures.value ∙ ap unsigned_abs (rest-done _ _ _ _ ended so_far)
