-- The list of the sums of signed generators, with their levels, is one list.
use Rattle.std.proofs.Common.{◌≡◌, ℕ, ◌≤◌, List, [], ◌∷◌, refl, arith, sym, Contains, subst}
use Rattle.std.specs.List.{AllByRecursion}
use Rattle.std.proofs.lemmas.List.Elements.{All-contains, recursion_from_All}
use Rattle.lattice_theory.specs.Vectors.{Vector}
use Rattle.lattice_theory.specs.SignedSums.{Sum, IsSignedSum, HasLevel, AreSums, vectors}
use Rattle.lattice_laws.proofs.Rising.{rising_unique}
use Rattle.lattice_laws.proofs.VectorLists.{vectors-sum}

module _ (t : ℕ) (gens : List Vector) where
  -- a vector has one level
  level_unique : (s r : Sum) → HasLevel t gens s → HasLevel t gens r → s.vector ≡ r.vector → s.level ≡ r.level
  level_unique s r first second e =
      let low = first.least r.level (subst (IsSignedSum t gens r.level) (sym e) second.reached) in
      let high = second.least s.level (subst (IsSignedSum t gens s.level) e first.reached) in
      omega (arith, low, high)

  -- sums with their levels are known by their vectors
  by_vectors : (ss rs : List Sum) → AllByRecursion (HasLevel t gens) ss → AllByRecursion (HasLevel t gens) rs →
      vectors ss ≡ vectors rs → ss ≡ rs
  by_vectors [] [] first second e = refl
  by_vectors [] (r ∷ rs) first second e = absurd (cc)
  by_vectors (s ∷ ss) [] first second e = absurd (cc)
  by_vectors (s ∷ ss) (r ∷ rs) first second e =
      let here : s.vector ≡ r.vector = cc in
      let rest : vectors ss ≡ vectors rs = cc in
      let level = level_unique s r first.0 second.0 here in
      λ i. record { level = level i; vector = here i } ∷ by_vectors ss rs first.1 second.1 rest i

  module _ (g : ℕ) where
    abbrev IsLevelled : Sum → Type 0
    IsLevelled s = (s.level ≤ g) × HasLevel t gens s

    levels : (ss : List Sum) → AllByRecursion IsLevelled ss → AllByRecursion (HasLevel t gens) ss
    levels [] all = tt
    levels (s ∷ ss) all = (all.0.1, levels ss all.1)

    -- what one list has the other one has
    other_has : (ss rs : List Sum) → AreSums t gens g ss → AreSums t gens g rs → (w : Vector) →
        Contains (vectors ss) w → Contains (vectors rs) w
    other_has ss rs first second w c =
        let r = vectors-sum ss w c in
        let at = All-contains IsLevelled ss r.0 first.sound r.1 in
        second.complete r.0.level w at.0 (subst (IsSignedSum t gens r.0.level) r.2 at.1.reached)

    pub sums_unique : (ss rs : List Sum) → AreSums t gens g ss → AreSums t gens g rs → ss ≡ rs
    sums_unique ss rs first second =
        by_vectors ss rs (levels ss (recursion_from_All IsLevelled ss first.sound))
        (levels rs (recursion_from_All IsLevelled rs second.sound))
        (rising_unique (vectors ss) (vectors rs) first.rising second.rising
        (λ w c. other_has ss rs first second w c) (λ w c. other_has rs ss second first w c))
