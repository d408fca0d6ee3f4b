use Rattle.std.proofs.Common.{rules, ◌≡◌, length, ◌⊎◌, inl, inr, w64, FitsSigned, ◌+ℤ◌}
use Rattle.std.proofs.lemmas.Int.{to_z-of_z}
use Rattle.int_vectors.proofs.ZipLaws.{zip_with-step, zip_with-done}
use Rattle.vector_sums.proofs.sum.Goals as goal

pub loop-x-preserved : goal.loop-x-preserved
loop-x-preserved c =
    let fx : FitsSigned w64 c.in-Some.x.now = search rules in
    let fy : FitsSigned w64 c.in-Some.y.now = search rules in
    let value = simp to_z-of_z at c.entry_sum.ensures in
    let fits : FitsSigned w64 c.entry_sum.result = search rules in
    let next = zip_with-step ◌+ℤ◌ _ _ _ _ _ _ _ _ c.in-Some.ensures.steps.0 c.in-Some.ensures.steps.1
    c.loop-x.invariant in
    rw c.in_ok-push.ensures.items (simp to_z-of_z (rw value next))

pub returns : goal.returns
returns c =
    let ended : (length c.loop-x.x-iterator.a.rest.now ≡ 0) ⊎ (length c.loop-x.x-iterator.b.rest.now ≡ 0) =
    elim c.in-None.ensures.steps [ inl p ↦ inl p.1.0 | inr p ↦ inr p.1.0 ] in
    zip_with-done ◌+ℤ◌ _ _ _ _ ended c.loop-x.invariant
