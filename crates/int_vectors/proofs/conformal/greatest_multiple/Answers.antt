use Rattle.std.proofs.Common.{arith, ◌≡◌, ◌≤◌, ◌<◌, ◌-◌, ◌^◌, length, ◌⊎◌, inl, inr, ◌∙◌, sym, subst, unsigned_abs}
use Rattle.std.proofs.lemmas.List.Elements.{recursion_from_All, All-weaker}
use Rattle.lattice_theory.specs.Vectors.{IsGreatestMultiple}
use Rattle.lattice_theory.specs.Lattices.{multiples}
use Rattle.int_vectors.proofs.MultipleLaws.{multiples-done, multiples-there, multiples-below, fold-min-least}
use Rattle.int_vectors.proofs.MultipleLaws.{greatest_multiple-IsGreatestMultiple}
use Rattle.int_vectors.proofs.conformal.greatest_multiple.Goals as goal

pub returns-clause-value : goal.returns-clause-value
returns-clause-value c =
    let ended : (length c.loop-x.x-iterator.a.rest.now ≡ 0) ⊎ (length c.loop-x.x-iterator.b.rest.now ≡ 0) =
    elim c.in-None.ensures.steps [ inl p ↦ inl p.1.0 | inr p ↦ inr p.1.0 ] in
    multiples-done _ _ _ _ ended c.loop-x.invariant
    ∙ fold-min-least (2 ^ 64 - 1) (multiples c.args.e.now c.args.v.now)
    (multiples-there _ _ c.requires.same c.requires.nonzero)
    (multiples-below _ _ (2 ^ 64 - 1) (recursion_from_All (λ y. unsigned_abs y ≤ 2 ^ 64 - 1) _
    (All-weaker (λ y. unsigned_abs y < 2 ^ 63) (λ y. unsigned_abs y ≤ 2 ^ 64 - 1) (λ y small. omega arith) _
    c.requires.second)))

pub returns-clause-greatest : goal.returns-clause-greatest
returns-clause-greatest c =
    subst (IsGreatestMultiple c.args.e.now c.args.v.now) (sym (returns-clause-value c))
    (greatest_multiple-IsGreatestMultiple _ _ c.requires.same c.requires.nonzero c.requires.below)
