-- The kernel of a slack basis is a list of generators.
use Rattle.std.proofs.Common.{◌≡◌, Bool, true, false, cond, List, [], ◌∷◌, map, take, drop, get_or, ◌∙◌, subst, inl}
use Rattle.std.proofs.Common.{inr}
use Rattle.std.specs.List.{All, AllByRecursion, filter}
use Rattle.std.proofs.lemmas.List.Elements.{All-map, All-filter, recursion_from_All, All-from_recursion}
use Rattle.std.proofs.lemmas.List.Elements.{Contains-get_or}
use Rattle.lattice_theory.specs.Vectors.{Vector, is_zero, leads_positive, is_rising, lex_less, same, opposite}
use Rattle.lattice_theory.specs.Matrices.{Matrix}
use Rattle.lattice_theory.specs.Lattices.{IsSlackBasis, kernel}
use Rattle.lattice_theory.specs.BasisLimits.{IsBasisElement}
use Rattle.lattice_laws.proofs.Tests.{true_or_false, same_true}
use Rattle.lattice_laws.proofs.Conformal.{opposite-take, leads_not_both}
use Rattle.lattice_laws.proofs.Elements.{known_by_first, closed_opposite, first_nonzero}
use Rattle.lattice_laws.proofs.Rising.{rising_tail, rising_above, lex_less_irrefl}
use Rattle.brick_sums.specs.Generators.{AreGenerators}

not_same : (u v : Vector) → (u ≡ v → ⊥) → same u v ≡ false
not_same u v other = elim (true_or_false (same u v)) [ inl e ↦ absurd (other (same_true u v e)) | inr e ↦ e ]

-- one is neither the other nor its opposite
abbrev AreApart : Vector → Vector → Type 0
AreApart e d = (same e d ≡ false) × (same e (opposite d) ≡ false)

module _ (m : Matrix) where
  -- the first parts of two elements, of which one is less
  first_parts_apart : (y z : Vector) → IsBasisElement m y → IsBasisElement m z → lex_less y z ≡ true →
      AreApart (take m.cols y) (take m.cols z)
  first_parts_apart y z first second less = (
    not_same (take m.cols y) (take m.cols z)
        (λ e.
        let it : y ≡ z = known_by_first m y z first.0.member second.0.member e in
        lex_less_irrefl z (subst (λ u. lex_less u z ≡ true) it less)),
    not_same (take m.cols y) (opposite (take m.cols z))
        (λ e.
        let it : y ≡ opposite z =
        known_by_first m y (opposite z) first.0.member (closed_opposite m z second.0.member)
        (e ∙ opposite-take m.cols z) in
        leads_not_both z second.1 (subst (λ u. leads_positive u ≡ true) it first.1)),
  )

  -- that of the first element, from those of the others
  head_apart : (z : Vector) (zs : List Vector) → is_rising (z ∷ zs) ≡ true → IsBasisElement m z →
      All (IsBasisElement m) zs → All (λ y. AreApart (take m.cols z) (take m.cols y)) zs
  head_apart z zs rising first others k d below =
      let y = get_or zs k d in
      first_parts_apart z y first (others k d below) (rising_above z zs y rising (Contains-get_or zs k d below))

  kernel_parts : (zs : List Vector) → is_rising zs ≡ true → AllByRecursion (IsBasisElement m) zs →
      AreGenerators (kernel m.cols zs)
  kernel_parts [] rising each = tt
  kernel_parts (z ∷ zs) rising each =
      by (is_zero (drop m.cols z)) (filter (λ y. is_zero (drop m.cols y)) zs)
      (All-filter (λ y. is_zero (drop m.cols y)) (λ y. AreApart (take m.cols z) (take m.cols y)) zs
      (head_apart z zs rising each.0 (All-from_recursion (IsBasisElement m) zs each.1)))
      (kernel_parts zs (rising_tail z zs rising) each.1)
    where
      by : (b : Bool) (rest : List Vector) → All (λ y. AreApart (take m.cols z) (take m.cols y)) rest →
          AreGenerators (map (take m.cols) rest) → AreGenerators (map (take m.cols) (cond b (z ∷ rest) rest))
      by false rest apart others = others
      by true rest apart others = (
        first_nonzero m z each.0.0.member each.0.0.nonzero,
        All-map (AreApart (take m.cols z)) (take m.cols) rest apart,
        others,
      )

pub kernel-AreGenerators : (m : Matrix) (basis : List Vector) → IsSlackBasis m basis →
    AreGenerators (kernel m.cols basis)
kernel-AreGenerators m basis slack =
    kernel_parts m basis slack.rising (recursion_from_All (IsBasisElement m) basis slack.sound)
