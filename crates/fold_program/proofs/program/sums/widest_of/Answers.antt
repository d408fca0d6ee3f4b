use Rattle.std.proofs.Common.{◌≡◌, ◌⊎◌, inl, inr, length}
use Rattle.fold_program.proofs.CostLaws.{widest_end}
use Rattle.fold_program.proofs.program.sums.widest_of.Goals as goal

pub returns : goal.returns
returns c =
    let ended : (length c.loop-low.low-iterator.a.rest.now ≡ 0) ⊎ (length c.loop-low.low-iterator.b.rest.now ≡ 0) =
    elim c.in-None.ensures.steps [ inl p ↦ inl p.1.0 | inr p ↦ inr p.1.0 ] in
    widest_end _ _ _ _ ended c.loop-low.invariant
