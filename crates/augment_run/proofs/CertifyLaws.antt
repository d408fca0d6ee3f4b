-- The parts of a certificate are within what can be read back.
use Rattle.std.proofs.Common.{◌≡◌, ℕ, ◌+◌, ◌^◌, ◌<◌, ◌≤◌, ℤ, unsigned_abs, List, length, map, refl, ap, arith, sym, ◌∙◌}
use Rattle.std.proofs.Common.{subst, Some, None, Option, get_or, All}
use Rattle.std.proofs.lemmas.Int.{ints}
use Rattle.std.proofs.lemmas.List.{length-map, get_or-map}
use Rattle.std.proofs.lemmas.List.Elements.{All-map, All-weaker}
use Rattle.std.proofs.lemmas.Option.{slice_get-get_or}
use Rattle.lattice_theory.specs.Vectors.{Vector, dot}
use Rattle.lattice_theory.specs.Matrices.{Matrix}
use Rattle.lattice_theory.specs.BasisLimits.{IsNarrow}
use Rattle.lattice_theory.specs.SignedSums.{Sum, HasLevel, vectors}
use Rattle.fold_theory.specs.declared.Phase.{Phase}
use Rattle.fold_theory.specs.Programs.{Program, Bricks}
use Rattle.run_theory.specs.Links.{Bases, AreBases, generators, fold_complexity}
use Rattle.run_theory.specs.Folds.{IsSmallImage}
use Rattle.run_theory.specs.Limits.{SumStageWithin}
use Rattle.run_theory.specs.Outcomes.{row_of_sum}
use Rattle.lattice_laws.proofs.VectorLists.{length-kernel}
use Rattle.layer_sieve.specs.Reaching.{AreAtMost}
use Rattle.certificate.specs.Readable.{IsSumRow, IsCell}
use Rattle.sum_laws.proofs.FoldLaws.{sums_wide, sums_small, sums_low}
use Rattle.augment_run.specs.declared.solving.plans.Plan.{Plan}
use Rattle.augment_run.specs.Solving.{caps_of}
use Rattle.augment_run.specs.Stages.{bases_of, IsPlan}

module _ (p : Program) (plan : Plan) (x : Bricks) (is : IsPlan p x plan) where
  abbrev b : Bases
  b = bases_of plan

  abbrev gens : List Vector
  gens = generators p b.brick

  pub plan_bases : AreBases p b
  plan_bases = record { brick = is.stage.bricks.within.slack; links = is.stage.basis.slack }

  -- the link matrix has a column for each generator, of which there are few, and a row for each linking row
  pub few_links : length gens ≤ 2000
  few_links = omega (arith, length-kernel p.brick.cols b.brick, is.stage.bricks.within.short, is.limits.small_basis)

  pub links_wide : plan.links.cols ≡ length gens
  links_wide = ap (λ (m : Matrix). m.cols) is.links

  pub links_high : length plan.links.rows ≡ length p.link.rows
  links_high =
      ap (λ (m : Matrix). length m.rows) is.links ∙ length-map p.link.rows (λ row. map (dot row) gens)

  pub basis_wide : plan.links.cols + length plan.links.rows ≡ plan.basis.matrix.cols + length plan.basis.matrix.rows
  basis_wide =
      let same : plan.links ≡ plan.basis.matrix = is.links ∙ sym is.of_links in
      ap (λ (m : Matrix). m.cols + length m.rows) same

  pub narrow_gens : All IsNarrow gens
  narrow_gens = subst (λ (m : Matrix). All IsNarrow m.rows) is.kernel is.narrow

  pub few_elements : length plan.basis.elements ≤ 2000
  few_elements = omega (arith, is.stage.basis.short, is.limits.small_basis)

  module _ (phase : Phase) (sums : List Sum) (within : SumStageWithin p (caps_of plan.settings) phase b sums) where
    pub few_sums : length sums ≤ 20000
    few_sums = omega (arith, within.few, is.limits.few_sums)

    pub wide : All (λ w. length w ≡ p.brick.cols) (vectors sums)
    wide = sums_wide p b plan_bases phase sums within.all

    pub images : All (IsSmallImage p) (vectors sums)
    images = sums_small p b plan_bases phase sums within.all is.stage.entries few_sums

    abbrev IsSumOf : Sum → Type 0
    IsSumOf s = (s.level ≤ fold_complexity p phase b) × HasLevel p.brick.cols gens s

    pub levels : (bound : ℕ) → bound ≡ fold_complexity p phase b → bound < 2 ^ 43 →
        All (λ (s : Sum). s.level < 2 ^ 43) sums
    levels bound is small =
        All-weaker IsSumOf (λ (s : Sum). s.level < 2 ^ 43) (λ s has. omega (arith, has.0, is, small)) sums
        within.all.sound

    low : All (All (λ a. unsigned_abs a ≤ 2 ^ 47)) (vectors sums)
    low = sums_low p b plan_bases phase sums within.all narrow_gens few_sums

    -- the rows of the sums
    pub sum_rows_fit : All (λ (s : Sum). s.level < 2 ^ 43) sums → All IsSumRow (map row_of_sum sums)
    sum_rows_fit small = All-map IsSumRow row_of_sum sums (λ i d inside.
        let s = get_or sums i d in
        let at : get_or (vectors sums) i d.vector ≡ s.vector =
        get_or-map (λ (s : Sum). s.vector) sums i d d.vector inside in
        let size : length (vectors sums) ≡ length sums = length-map sums (λ (s : Sum). s.vector) in
        let level = small i d inside in (
          omega (arith, ints),
          omega (arith, level),
          subst (All (λ a. unsigned_abs a ≤ 2 ^ 47)) at (low i d.vector (omega (arith, inside, size))),
        ))

-- cells that are no larger than 2 ^ 122 can be read
pub cells_fit_in : (rows : List (List (Option ℤ))) → All (AreAtMost (2 ^ 122)) rows → All (All IsCell) rows
cells_fit_in rows small = All-weaker (AreAtMost (2 ^ 122)) (All IsCell) each rows small
  where
    cell : (o : Option ℤ) → ((a : ℤ) → o ≡ Some a → unsigned_abs a ≤ 2 ^ 122) → IsCell o
    cell None most = tt
    cell (Some a) most = omega (arith, most a refl)

    each : (row : List (Option ℤ)) → AreAtMost (2 ^ 122) row → All IsCell row
    each row most i d inside = cell (get_or row i d) (λ a is. most i a (slice_get-get_or row i d inside ∙ ap Some is))
