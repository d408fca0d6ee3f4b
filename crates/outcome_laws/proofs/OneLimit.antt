-- A program passes at most one limit first, and none where all that its outcome reaches is within the limits.
use Rattle.std.proofs.Common.{◌≡◌, ℕ, ◌+◌, ◌*◌, ◌^◌, ◌<◌, ◌≤◌, unsigned_abs, List, length, All, Some, slice_get, refl}
use Rattle.std.proofs.Common.{ap, arith, sym, ◌∙◌, subst, ◌⊎◌, inl, inr}
use Rattle.std.proofs.lemmas.Bool.{cases_order}
use Rattle.std.proofs.lemmas.List.{length-map}
use Rattle.std.proofs.lemmas.List.Elements.{All-contains}
use Rattle.std.proofs.lemmas.Option.{same_Some}
use Rattle.fold_theory.specs.declared.Phase.{Phase}
use Rattle.fold_theory.specs.declared.Phase.TheVariants.{Closed, Counted}
use Rattle.fold_theory.specs.declared.Verdict.{Verdict}
use Rattle.fold_theory.specs.declared.Verdict.TheVariants.{Optimal, InfeasibleBrick, InfeasibleLink}
use Rattle.run_theory.specs.declared.SolveFault.{SolveFault}
use Rattle.run_theory.specs.declared.SolveFault.TheVariants.{BrickBasis, LinkEntry, LinkBasis, Sums, Table, Memory}
use Rattle.lattice_theory.specs.Vectors.{Vector}
use Rattle.lattice_theory.specs.Matrices.{Matrix}
use Rattle.lattice_theory.specs.Lattices.{IsSlackBasis}
use Rattle.lattice_theory.specs.BasisLimits.{IsNarrow, ExceedsBasis}
use Rattle.lattice_theory.specs.SignedSums.{Sum, IsSignedSum, vectors}
use Rattle.lattice_laws.proofs.Rising.{rising_length}
use Rattle.lattice_laws.proofs.SlackBases.{slack_basis_unique, within_or_exceeds}
use Rattle.lattice_laws.proofs.Places.{slice_get-All}
use Rattle.fold_theory.specs.Programs.{Program, Bricks, link_rests, link_miss}
use Rattle.run_theory.specs.Links.{Bases, AreBases, generators, links_of, fold_complexity}
use Rattle.run_theory.specs.BrickSums.{ExceedsSums}
use Rattle.run_theory.specs.Outcomes.{Outcome, IsOutcome, CountedPart, AllSettle}
use Rattle.run_theory.specs.Limits.{Caps, IsFirstWide, BrickStageWithin, LinkStageWithin, PhaseBegins, FitsTable}
use Rattle.run_theory.specs.Limits.{SumStageWithin, CountedStageWithin, IsLimit}
use Rattle.run_theory.specs.Solved.{IsWithinCaps}
use Rattle.outcome_laws.proofs.SettledBricks.{settled_unique}
use Rattle.outcome_laws.proofs.OneOutcome.{bases_unique, brick_sums_unique, counted_unique, saying, SaysMissed}
use Rattle.outcome_laws.proofs.OneOutcome.{stuck_or_settled}

-- ---- the first wide entry

module _ (m : Matrix) where
  -- a row before that of a wide entry is narrow
  no_wide_before : (row col other place : ℕ) (first : IsFirstWide m row col) (second : IsFirstWide m other place) →
      first.i < second.i → ⊥
  no_wide_before row col other place first second before =
      let narrow = second.above first.i first.entries before first.there.0 in
      let here = slice_get-All (λ a. unsigned_abs a < 2 ^ 31) first.entries first.j first.entry first.there.1 narrow in
      omega (arith, first.wide, here)

  -- and so is what stands before it in its row
  no_wide_left : (row col other place : ℕ) (first : IsFirstWide m row col) (second : IsFirstWide m other place) →
      first.i ≡ second.i → first.j < second.j → ⊥
  no_wide_left row col other place first second same before =
      let rows : Some first.entries ≡ Some second.entries =
      sym first.there.0 ∙ ap (slice_get m.rows) same ∙ second.there.0 in
      let entries : first.entries ≡ second.entries = same_Some first.entries second.entries rows in
      let there = subst (λ v. slice_get v first.j ≡ Some first.entry) entries first.there.1 in
      omega (arith, first.wide, second.before first.j first.entry before there)

  first_wide_unique : (row col other place : ℕ) → IsFirstWide m row col → IsFirstWide m other place →
      (row ≡ other) × (col ≡ place)
  first_wide_unique row col other place first second = by_rows (cases_order first.i second.i)
    where
      by_rows : (first.i ≡ second.i) ⊎ ((first.i < second.i) ⊎ (second.i < first.i)) → (row ≡ other) × (col ≡ place)
      by_rows (inl rows) = elim (cases_order first.j second.j) [
        | inl cols ↦ (
          omega (arith, first.numbered.0, second.numbered.0, rows),
          omega (arith, first.numbered.1, second.numbered.1, cols),
        )
        | inr (inl before) ↦ absurd (no_wide_left row col other place first second rows before)
        | inr (inr behind) ↦ absurd (no_wide_left other place row col second first (sym rows) behind)
      ]
      by_rows (inr (inl before)) = absurd (no_wide_before row col other place first second before)
      by_rows (inr (inr behind)) = absurd (no_wide_before other place row col second first behind)

  -- a matrix with narrow rows has none
  pub no_wide_in_narrow : (row col : ℕ) → All IsNarrow m.rows → IsFirstWide m row col → ⊥
  no_wide_in_narrow row col narrow first =
      let row_narrow = slice_get-All IsNarrow m.rows first.i first.entries first.there.0 narrow in
      let here = slice_get-All (λ a. unsigned_abs a < 2 ^ 31) first.entries first.j first.entry first.there.1
      row_narrow in
      omega (arith, first.wide, here)

module _ (p : Program) (c : Caps) where
  -- ---- the stages on the way to the outcome

  bases_of : (b : Bases) (x : Bricks) → LinkStageWithin p c b x → AreBases p b
  bases_of b x stage = record { brick = stage.bricks.within.slack; links = stage.basis.slack }

  stage_unique : (b d : Bases) (x y : Bricks) → LinkStageWithin p c b x → LinkStageWithin p c d y → (b ≡ d) × (x ≡ y)
  stage_unique b d x y first second =
      let bases : b ≡ d = bases_unique p b d (bases_of b x first) (bases_of d y second) in
      let settles =
      settled_unique p d.brick p.bricks first.bricks.traces second.bricks.traces x y
      (subst (λ (a : Bases). AllSettle p a.brick p.bricks first.bricks.traces x) bases first.bricks.settled)
      second.bricks.settled in
      (bases, settles.1)

  -- ---- no limit is passed at a stage that is within it

  -- the link matrix
  no_entry : (row col : ℕ) (basis : List Vector) → IsSlackBasis p.brick basis → All IsNarrow (links_of p basis).rows →
      IsLimit p c (LinkEntry row col) → ⊥
  no_entry row col basis slack narrow (other, x, stage, wide) =
      let same = slack_basis_unique p.brick other basis stage.within.slack slack in
      no_wide_in_narrow (links_of p basis) row col narrow (subst (λ zs. IsFirstWide (links_of p zs) row col) same wide)

  no_link_basis : (b : Bases) (x : Bricks) → LinkStageWithin p c b x → IsLimit p c LinkBasis → ⊥
  no_link_basis b x stage (basis, y, bricks, narrow, exceeds) =
      let same = slack_basis_unique p.brick basis b.brick bricks.within.slack stage.bricks.within.slack in
      within_or_exceeds (links_of p b.brick) c.basis b.links stage.basis
      (subst (λ zs. ExceedsBasis (links_of p zs) c.basis) same exceeds)

  -- the sums of a phase
  abbrev SumsWithin : Phase → Bases → Type 0
  SumsWithin phase b = (sums : List Sum) × SumStageWithin p c phase b sums

  abbrev TableWithin : Phase → Bases → Type 0
  TableWithin phase b = (sums : List Sum) × SumStageWithin p c phase b sums × FitsTable p sums

  sums_or_exceed : (phase : Phase) (b : Bases) → SumsWithin phase b → ExceedsSums p phase b c.sums → ⊥
  sums_or_exceed phase b (sums, within) (zs, rising, many, each) =
      let reached : Vector → Type 0 =
      λ w. (n : ℕ) × (n ≤ fold_complexity p phase b) × IsSignedSum p.brick.cols (generators p b.brick) n w in
      let few =
      rising_length zs (vectors sums) rising within.all.rising
      (λ w d. let r = All-contains reached zs w each d in within.all.complete r.0 w r.1 r.2) in
      omega (arith, few, many, within.few, length-map sums (λ (s : Sum). s.vector))

  no_sums : (phase : Phase) (b : Bases) (x : Bricks) → LinkStageWithin p c b x →
      (PhaseBegins p phase b x → SumsWithin phase b) → IsLimit p c (Sums phase) → ⊥
  no_sums phase b x stage within (d, y, other, begins, counted, exceeds) =
      let same = stage_unique d b y x other stage in
      let start = subst (PhaseBegins p phase b) same.1 (subst (λ a. PhaseBegins p phase a y) same.0 begins) in
      sums_or_exceed phase b (within start) (subst (λ a. ExceedsSums p phase a c.sums) same.0 exceeds)

  no_table : (phase : Phase) (b : Bases) (x : Bricks) → LinkStageWithin p c b x →
      (PhaseBegins p phase b x → TableWithin phase b) → IsLimit p c (Table phase) → ⊥
  no_table phase b x stage within (d, y, sums, other, begins, counted, all, large) =
      let same = stage_unique d b y x other stage in
      let start = subst (PhaseBegins p phase b) same.1 (subst (λ a. PhaseBegins p phase a y) same.0 begins) in
      let fits = within start in
      let there = subst (λ a. SumStageWithin p c phase a sums) same.0 all in
      let one = brick_sums_unique p phase b sums fits.0 there.all fits.1.all in
      omega (arith, large, fits.2, ap (λ (ss : List Sum). (length p.bricks + 1) * length ss) one)

  -- ---- at most one limit

  -- the first phase, or the second
  abbrev turn : Phase → ℕ
  turn Counted = 0
  turn Closed = 1

  turn_most : (phase : Phase) → turn phase ≤ 1
  turn_most Counted = omega arith
  turn_most Closed = omega arith

  -- where a limit stands on the way
  abbrev rank : SolveFault → ℕ
  rank BrickBasis = 0
  rank (LinkEntry row col) = 1
  rank LinkBasis = 2
  rank (Sums phase) = 3 + 2 * turn phase
  rank (Table phase) = 4 + 2 * turn phase
  rank Memory = 7

  -- past the brick matrix's basis the bricks settle by it
  past_bricks : (f : SolveFault) → 0 < rank f → IsLimit p c f →
      (basis : List Vector) × (x : Bricks) × BrickStageWithin p c basis x
  past_bricks BrickBasis late is = absurd (omega (arith, late))
  past_bricks (LinkEntry row col) late (basis, x, stage, wide) = (basis, x, stage)
  past_bricks LinkBasis late (basis, x, stage, narrow, exceeds) = (basis, x, stage)
  past_bricks (Sums phase) late (b, x, stage, begins, counted, exceeds) = (b.brick, x, stage.bricks)
  past_bricks (Table phase) late (b, x, sums, stage, begins, counted, all, large) = (b.brick, x, stage.bricks)
  past_bricks Memory late is = absurd is

  -- past the entries of the link matrix they are narrow
  past_entries : (f : SolveFault) → 1 < rank f → IsLimit p c f →
      (basis : List Vector) × IsSlackBasis p.brick basis × All IsNarrow (links_of p basis).rows
  past_entries BrickBasis late is = absurd (omega (arith, late))
  past_entries (LinkEntry row col) late is = absurd (omega (arith, late))
  past_entries LinkBasis late (basis, x, stage, narrow, exceeds) = (basis, stage.within.slack, narrow)
  past_entries (Sums phase) late (b, x, stage, begins, counted, exceeds) =
      (b.brick, stage.bricks.within.slack, stage.entries)
  past_entries (Table phase) late (b, x, sums, stage, begins, counted, all, large) =
      (b.brick, stage.bricks.within.slack, stage.entries)
  past_entries Memory late is = absurd is

  -- past the link matrix's basis both bases are within
  past_links : (f : SolveFault) → 2 < rank f → IsLimit p c f → (b : Bases) × (x : Bricks) × LinkStageWithin p c b x
  past_links (Sums phase) late (b, x, stage, begins, counted, exceeds) = (b, x, stage)
  past_links (Table phase) late (b, x, sums, stage, begins, counted, all, large) = (b, x, stage)
  past_links Memory late is = absurd is
  past_links f late is = absurd (omega (arith, late))

  -- in phase Closed phase Counted is within, where it begins
  past_counted : (f : SolveFault) → 4 < rank f → IsLimit p c f →
      (b : Bases) × (x : Bricks) × LinkStageWithin p c b x × CountedStageWithin p c Closed b x
  past_counted (Sums Closed) late (b, x, stage, begins, counted, exceeds) = (b, x, stage, counted)
  past_counted (Table Closed) late (b, x, sums, stage, begins, counted, all, large) = (b, x, stage, counted)
  past_counted Memory late is = absurd is
  past_counted f late is = absurd (omega (arith, late))

  sums_of_table : (phase : Phase) (b : Bases) → TableWithin phase b → SumsWithin phase b
  sums_of_table phase b (sums, within, fits) = (sums, within)

  -- of two limits none stands before the other
  none_before : (f g : SolveFault) → rank f < rank g → IsLimit p c f → IsLimit p c g → ⊥
  none_before BrickBasis g before first second =
      let r = past_bricks g before second in within_or_exceeds p.brick c.basis r.0 r.2.within first
  none_before (LinkEntry row col) g before first second =
      let r = past_entries g before second in no_entry row col r.0 r.1 r.2 first
  none_before LinkBasis g before first second = let r = past_links g before second in no_link_basis r.0 r.1 r.2 first
  none_before (Sums Counted) (Table Counted) before first (b, x, sums, stage, begins, counted, all, large) =
      no_sums Counted b x stage (λ _. (sums, all)) first
  none_before (Sums Counted) g before first second =
      let r = past_counted g (omega (arith, before)) second in
      no_sums Counted r.0 r.1 r.2 (λ begins. sums_of_table Counted r.0 (r.3 begins)) first
  none_before (Table Counted) g before first second =
      let r = past_counted g before second in no_table Counted r.0 r.1 r.2 r.3 first
  none_before (Sums Closed) (Table Closed) before first (b, x, sums, stage, begins, counted, all, large) =
      no_sums Closed b x stage (λ _. (sums, all)) first
  none_before f Memory before first second = absurd second
  none_before f g before first second = absurd (omega (arith, before, turn_most))

  -- and two at one place are one
  same_place : (f g : SolveFault) → rank f ≡ rank g → IsLimit p c f → IsLimit p c g → f ≡ g
  same_place (LinkEntry row col) (LinkEntry other place) same (basis, x, stage, wide) (zs, y, later, first) =
      let bases = slack_basis_unique p.brick basis zs stage.within.slack later.within.slack in
      let one =
      first_wide_unique (links_of p zs) row col other place
      (subst (λ us. IsFirstWide (links_of p us) row col) bases wide) first in
      λ i. LinkEntry (one.0 i) (one.1 i)
  same_place BrickBasis BrickBasis same first second = refl
  same_place LinkBasis LinkBasis same first second = refl
  same_place (Sums Counted) (Sums Counted) same first second = refl
  same_place (Sums Closed) (Sums Closed) same first second = refl
  same_place (Table Counted) (Table Counted) same first second = refl
  same_place (Table Closed) (Table Closed) same first second = refl
  same_place Memory g same first second = absurd first
  same_place f g same first second = absurd (omega (arith, same))

  pub limit_unique : (f g : SolveFault) → IsLimit p c f → IsLimit p c g → f ≡ g
  limit_unique f g first second = elim (cases_order (rank f) (rank g)) [
    | inl same ↦ same_place f g same first second
    | inr (inl before) ↦ absurd (none_before f g before first second)
    | inr (inr behind) ↦ absurd (none_before g f behind second first)
  ]

  -- ---- no limit where all that the outcome reaches is within

  -- both bases are within, and so is each phase that begins
  record AreWithin (b : Bases) (x : Bricks) : Type 0 where
    stage : LinkStageWithin p c b x
    phases : (phase : Phase) → PhaseBegins p phase b x → TableWithin phase b

  none_passed : (b : Bases) (x : Bricks) → AreWithin b x → (f : SolveFault) → IsLimit p c f → ⊥
  none_passed b x within BrickBasis is = within_or_exceeds p.brick c.basis b.brick within.stage.bricks.within is
  none_passed b x within (LinkEntry row col) is =
      no_entry row col b.brick within.stage.bricks.within.slack within.stage.entries is
  none_passed b x within LinkBasis is = no_link_basis b x within.stage is
  none_passed b x within (Sums phase) is =
      no_sums phase b x within.stage (λ begins. sums_of_table phase b (within.phases phase begins)) is
  none_passed b x within (Table phase) is = no_table phase b x within.stage (within.phases phase) is
  none_passed b x within Memory is = absurd is

  -- where the linking rows stay missed phase Closed does not begin
  never_closed : (o : Outcome) (residual : ℕ) (b : Bases) (x : Bricks) → SaysMissed p o residual →
      LinkStageWithin p c b x → PhaseBegins p Closed b x → ⊥
  never_closed o residual b x (d, y, bases, settled, part, left, above, closed) stage (made, z, other, met) =
      let same : b ≡ d = bases_unique p b d (bases_of b x stage) bases in
      let joint =
      settled_unique p d.brick p.bricks stage.bricks.traces o.traces x y
      (subst (λ (a : Bases). AllSettle p a.brick p.bricks stage.bricks.traces x) same stage.bricks.settled) settled in
      let there : CountedPart p d y made z =
      subst (λ v. CountedPart p d v made z) joint.1 (subst (λ a. CountedPart p a x made z) same other) in
      let ends = counted_unique p d y made o.counted z o.point there part in
      omega (arith, met, left, above, ap (λ v. link_miss p (link_rests p v)) ends.1)

  pub within_excludes : (o : Outcome) → IsOutcome p o → IsWithinCaps p c o.verdict → (f : SolveFault) →
      IsLimit p c f → ⊥
  within_excludes o is within = by o.verdict is within
    where
      by : (v : Verdict) → IsOutcome p (saying p o v) → IsWithinCaps p c v → (f : SolveFault) → IsLimit p c f → ⊥
      by (InfeasibleBrick number residual) is (basis, inside) BrickBasis limit =
          within_or_exceeds p.brick c.basis basis inside limit
      by (InfeasibleBrick number residual) is within Memory limit = absurd limit
      by (InfeasibleBrick number residual) is within f limit =
          let r = past_bricks f (omega arith) limit in
          stuck_or_settled p o number residual r.0 r.2.traces r.1 is r.2.within.slack r.2.settled
      by (InfeasibleLink residual) is (b, x, sums, stage, inside, fits) f limit =
          none_passed b x (record { stage = stage; phases = each }) f limit
        where
          each : (phase : Phase) → PhaseBegins p phase b x → TableWithin phase b
          each Counted begins = (sums, inside, fits)
          each Closed begins = absurd (never_closed o residual b x is stage begins)
      by (Optimal cost) is (b, x, sums, stage, counted, inside, fits) f limit =
          none_passed b x (record { stage = stage; phases = each }) f limit
        where
          each : (phase : Phase) → PhaseBegins p phase b x → TableWithin phase b
          each Counted begins = counted begins
          each Closed begins = (sums, inside, fits)
