use Rattle.std.proofs.Common.{arith, rules, ◌≡◌, length, ◌+ℤ◌, FitsSigned, to_z, w64, ◌⊎◌, inl, inr, length-append, ap}
use Rattle.std.specs.Int.{w128}
use Rattle.std.proofs.lemmas.Int.{ints, to_z-of_z, fits_signed_from_abs}
use Rattle.int_vectors.proofs.ProductLaws.{dot-step, dot-done}
use Rattle.int_vectors.proofs.product.dot.Goals as goal

pub loop-x-preserved : goal.loop-x-preserved
loop-x-preserved c =
    let fx : FitsSigned w64 c.in-Some.x.now = search rules in
    let fy : FitsSigned w64 c.in-Some.y.now = search rules in
    let value = simp to_z-of_z at c.times-sum.ensures.value in
    let ft : FitsSigned w128 c.times-sum.result = search rules in
    let fs : FitsSigned w128 (to_z w128 c.loop-x.sum-bits +ℤ c.times-sum.result) =
    fits_signed_from_abs w128 _ (omega (arith, ints, ap length c.in-Some.ensures.steps.0)) in
    let next = dot-step _ _ _ _ _ _ _ _ c.in-Some.ensures.steps.0 c.in-Some.ensures.steps.1 c.loop-x.invariant.so_far in
    record {
      so_far = simp to_z-of_z (omega (arith, ints, value, next));
      read = simp length-append (omega (arith, ap length c.in-Some.ensures.steps.0));
      small = simp (to_z-of_z, length-append) (omega (arith, ints));
    }

pub returns-clause-value : goal.returns-clause-value
returns-clause-value c =
    let ended : (length c.loop-x.x-iterator.a.rest.now ≡ 0) ⊎ (length c.loop-x.x-iterator.b.rest.now ≡ 0) =
    elim c.in-None.ensures.steps [ inl p ↦ inl p.1.0 | inr p ↦ inr p.1.0 ] in
    dot-done _ _ _ _ ended c.loop-x.invariant.so_far
