use Rattle.std.proofs.Common.{arith, rules, ◌≡◌, ◌++◌, ◌∷◌, [], length, ◌⊎◌, inl, inr, ◌∙◌, ap, ◌+ℤ◌, Some, w64}
use Rattle.std.proofs.Common.{FitsSigned}
use Rattle.std.proofs.lemmas.Grind.{common_steps}
use Rattle.std.proofs.lemmas.Int.{ints, to_z-of_z}
use Rattle.int_vectors.proofs.TotalLaws.{first_unbounded-next, first_unbounded-snoc}
use Rattle.int_vectors.proofs.ZipLaws.{zip_with-step, zip_with-done}
use Rattle.int_vectors.proofs.total.add.Goals as goal

pub returns-in_default-clause-refused : goal.returns-in_default-clause-refused
returns-in_default-clause-refused c =
    let fx : FitsSigned w64 c.in-Some.x.now = search rules in
    let fy : FitsSigned w64 c.in-Some.y.now = search rules in
    let large = simp to_z-of_z at c.in_default.ensures in
    first_unbounded-next _ _ _ _ _ _ _ _ c.loop-x.invariant.bounded
    c.in-Some.ensures.steps.0 c.in-Some.ensures.steps.1 c.loop-x.invariant.so_far large
    ∙ ap Some (search rules)

pub loop-x-preserved : goal.loop-x-preserved
loop-x-preserved c =
    let fx : FitsSigned w64 c.in-Some.x.now = search rules in
    let fy : FitsSigned w64 c.in-Some.y.now = search rules in
    let told = simp to_z-of_z at c.in-Some-bounded_sum.ensures in
    let next = zip_with-step ◌+ℤ◌ _ _ _ _ _ _ _ _ c.in-Some.ensures.steps.0
    c.in-Some.ensures.steps.1 c.loop-x.invariant.so_far in
    let pushed : c.push.new.self.items ≡ c.loop-x.sums.items ++ (c.in-Some.x.now +ℤ c.in-Some.y.now) ∷ [] =
    grind (arith, common_steps, ints, to_z-of_z, told.1, c.push.ensures.items, c.if-is_err.ensures) in
    record {
      so_far = rw pushed next;
      bounded = rw pushed (first_unbounded-snoc c.loop-x.sums.items _ c.loop-x.invariant.bounded told.0);
    }

pub returns-clause-sum : goal.returns-clause-sum
returns-clause-sum c =
    let ended : (length c.loop-x.x-iterator.a.rest.now ≡ 0) ⊎ (length c.loop-x.x-iterator.b.rest.now ≡ 0) =
    elim c.in-None.ensures.steps [ inl p ↦ inl p.1.0 | inr p ↦ inr p.1.0 ] in
    zip_with-done ◌+ℤ◌ _ _ _ _ ended c.loop-x.invariant.so_far

pub returns-clause-bounded : goal.returns-clause-bounded
returns-clause-bounded c =
    let ended : (length c.loop-x.x-iterator.a.rest.now ≡ 0) ⊎ (length c.loop-x.x-iterator.b.rest.now ≡ 0) =
    elim c.in-None.ensures.steps [ inl p ↦ inl p.1.0 | inr p ↦ inr p.1.0 ] in
    rw (← zip_with-done ◌+ℤ◌ _ _ _ _ ended c.loop-x.invariant.so_far) c.loop-x.invariant.bounded
