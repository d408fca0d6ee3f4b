-- The width of brick sums and the size of their images.
use Rattle.std.proofs.Common.{◌≡◌, ℕ, zero, suc, ◌-◌, ◌*◌, ◌^◌, ◌≤◌, unsigned_abs, false, List, [], ◌∷◌, length, arith}
use Rattle.std.proofs.Common.{All}
use Rattle.std.proofs.lemmas.List.Elements.{All-map, All-weaker, All-from_recursion}
use Rattle.lattice_theory.specs.Vectors.{Vector, is_zero}
use Rattle.lattice_theory.specs.BasisLimits.{IsNarrow}
use Rattle.lattice_theory.specs.SignedSums.{Sum, IsSignedSum, HasLevel, AreSums, vectors}
use Rattle.lattice_theory.specs.Matrices.{product}
use Rattle.lattice_laws.proofs.Conformal.{nonzero_of_norm}
use Rattle.fold_theory.specs.declared.Phase.{Phase}
use Rattle.fold_theory.specs.Programs.{Program}
use Rattle.run_theory.specs.Links.{Bases, AreBases, generators, links_of, fold_complexity}
use Rattle.run_theory.specs.BrickSums.{AreBrickSums}
use Rattle.run_theory.specs.Folds.{IsSmallImage}
use Rattle.cover_laws.proofs.SlackBases.{slack_basis_complete}
use Rattle.cover_laws.proofs.Kernels.{IsGenerator, complete_generators}
use Rattle.brick_sums.proofs.SumLaws.{IsSignedSum-width}
use Rattle.graver_complexity.proofs.MultipleLaws.{AreSums-many}
use Rattle.graver_complexity.proofs.SizeLaws.{IsSignedSum-entries, IsSignedSum-images}

-- ---- generators

module _ (p : Program) (b : Bases) (bases : AreBases p b) where
  abbrev gens : List Vector
  gens = generators p b.brick

  abbrev t : ℕ
  t = p.brick.cols

  each : All (IsGenerator p.brick) gens
  each = All-from_recursion (IsGenerator p.brick) gens (complete_generators p.brick b.brick
      (slack_basis_complete p.brick b.brick bases.brick))

  even : All (λ e. length e ≡ t) gens
  even = All-weaker (IsGenerator p.brick) (λ e. length e ≡ t) (λ e g. g.size) gens each

  sized : All (λ e. (length e ≡ t) × (is_zero e ≡ false)) gens
  sized = All-weaker (IsGenerator p.brick) (λ e. (length e ≡ t) × (is_zero e ≡ false))
      (λ e g. (g.size, nonzero_of_norm e g.nonzero)) gens each

  -- ---- levels

  -- where there are few sums, each is a sum of few generators
  few_levels : (gs : List Vector) (g : ℕ) (sums : List Sum) (s : Sum) →
      All (λ e. (length e ≡ t) × (is_zero e ≡ false)) gs → AreSums t gs g sums →
      length sums ≤ 20000 → s.level ≤ g → HasLevel t gs s → s.level ≤ 9999
  few_levels [] g sums s fit are few low has = none s.level has.reached
    where
      none : (n : ℕ) → IsSignedSum t [] n s.vector → n ≤ 9999
      none zero sum = omega arith
      none (suc n) (before, e, sum, (k, below, at), either) = absurd (omega (arith, below))
  few_levels (e ∷ gs) g sums s fit are few low has =
      omega (arith, few, low, AreSums-many t g (e ∷ gs) sums (omega arith) fit are)

  module _ (phase : Phase) (sums : List Sum) (are : AreBrickSums p phase b sums) where
    abbrev g : ℕ
    g = fold_complexity p phase b

    abbrev IsSumOf : Sum → Type 0
    IsSumOf s = (s.level ≤ g) × HasLevel t gens s

    -- each sum is as wide as the generators
    pub sums_wide : All (λ w. length w ≡ t) (vectors sums)
    sums_wide =
        All-map (λ w. length w ≡ t) (λ (s : Sum). s.vector) sums
        (All-weaker IsSumOf (λ (s : Sum). length s.vector ≡ t) (λ s is. IsSignedSum-width t gens even s.level s.vector
        is.1.reached) sums are.sound)

    -- and its image is small
    pub sums_small : All IsNarrow (links_of p b.brick).rows → length sums ≤ 20000 → All (IsSmallImage p) (vectors sums)
    sums_small narrow few =
        All-map (IsSmallImage p) (λ (s : Sum). s.vector) sums (All-weaker IsSumOf (λ (s : Sum). IsSmallImage p s.vector)
        small sums are.sound)
      where
        small : (s : Sum) → IsSumOf s → IsSmallImage p s.vector
        small s is =
            let low : s.level ≤ 9999 = few_levels gens g sums s sized are few is.0 is.1 in
            All-weaker (λ a. unsigned_abs a ≤ s.level * (2 ^ 31 - 1)) (λ a. unsigned_abs a ≤ 2 ^ 50)
            (λ a most. omega (arith, low, most)) (product p.link s.vector)
            (IsSignedSum-images t s.level p.link gens s.vector even narrow is.1.reached)

    -- and so are its entries
    pub sums_low : All IsNarrow gens → length sums ≤ 20000 → All (All (λ a. unsigned_abs a ≤ 2 ^ 47)) (vectors sums)
    sums_low narrow few =
        All-map (All (λ a. unsigned_abs a ≤ 2 ^ 47)) (λ (s : Sum). s.vector) sums
        (All-weaker IsSumOf (λ (s : Sum). All (λ a. unsigned_abs a ≤ 2 ^ 47) s.vector) small sums are.sound)
      where
        small : (s : Sum) → IsSumOf s → All (λ a. unsigned_abs a ≤ 2 ^ 47) s.vector
        small s is =
            let low : s.level ≤ 9999 = few_levels gens g sums s sized are few is.0 is.1 in
            All-weaker (λ a. unsigned_abs a ≤ s.level * (2 ^ 31 - 1)) (λ a. unsigned_abs a ≤ 2 ^ 47)
            (λ a most. omega (arith, low, most)) s.vector
            (IsSignedSum-entries t s.level gens s.vector narrow is.1.reached)
