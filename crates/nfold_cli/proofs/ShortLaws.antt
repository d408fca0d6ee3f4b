-- Every step of an outcome has a length of at most 2 ^ 63, since no bounds are further apart.
use Rattle.std.proofs.Common.{◌≡◌, ℕ, ◌^◌, ◌<◌, ◌≤◌, List, [], ◌∷◌, All, Option, Some, None, arith, sym, subst, inl}
use Rattle.std.proofs.Common.{inr}
use Rattle.std.proofs.lemmas.Bool.{cases_lt}
use Rattle.std.proofs.lemmas.Nat.{pow_below}
use Rattle.std.proofs.lemmas.List.Elements.{All-nil, All-cons, All-push}
use Rattle.lattice_theory.specs.Vectors.{Vector}
use Rattle.lattice_theory.specs.SignedSums.{vectors}
use Rattle.fold_theory.specs.declared.Phase.{Phase}
use Rattle.fold_theory.specs.declared.Phase.TheVariants.{Closed, Counted}
use Rattle.fold_theory.specs.declared.Verdict.{Verdict}
use Rattle.fold_theory.specs.declared.Verdict.TheVariants.{Optimal, InfeasibleBrick, InfeasibleLink}
use Rattle.fold_theory.specs.Programs.{Program, Brick, Bricks, IsLength, widest}
use Rattle.run_theory.specs.Links.{Bases}
use Rattle.run_theory.specs.Steps.{Move, moved, IsRun}
use Rattle.run_theory.specs.BrickRuns.{BrickMove, stepped, IsBrickRunFrom, nearest_point}
use Rattle.run_theory.specs.Outcomes.{Outcome, Step, RunRecord, IsRecorded, steps_from, step_at, AllSettle, FirstStuck}
use Rattle.run_theory.specs.Outcomes.{CountedPart, ClosedPart, IsOutcome}
use Rattle.nfold_cli.specs.SolvedTexts.{AreShort, AreShortSteps, IsShortRun}

module _ (p : Program) (close : widest p ≤ 2 ^ 63) where
  length_short : (k : ℕ) → IsLength p k → k < 64
  length_short k is = elim (cases_lt 63 k) [
    | inl long ↦ absurd (omega (arith, pow_below 63 k long, is, close))
    | inr short ↦ omega (arith, short)
  ]

  brick_run_short : (basis : List Vector) (b : Brick) (v : Vector) (ms : List BrickMove) (last : Vector) →
      IsBrickRunFrom p basis b v ms last → AreShort ms
  brick_run_short basis b v [] last run = All-nil (λ (m : BrickMove). m.k < 64)
  brick_run_short basis b v (m ∷ ms) last run =
      All-cons (λ (m : BrickMove). m.k < 64) m ms (length_short m.k run.0.improves.length)
      (brick_run_short basis b (stepped v m) ms last run.1)

  settled_short : (basis : List Vector) (bs : List Brick) (traces : List (List BrickMove)) (x : Bricks) →
      AllSettle p basis bs traces x → All AreShort traces
  settled_short basis [] [] [] settles = All-nil AreShort
  settled_short basis [] [] (v ∷ x) settles = absurd settles
  settled_short basis [] (ms ∷ traces) x settles = absurd settles
  settled_short basis (b ∷ bs) [] x settles = absurd settles
  settled_short basis (b ∷ bs) (ms ∷ traces) [] settles = absurd settles
  settled_short basis (b ∷ bs) (ms ∷ traces) (v ∷ x) (run, met, rest) =
      All-cons AreShort ms traces (brick_run_short basis b (nearest_point b) ms v run)
      (settled_short basis bs traces x rest)

  run_short : (phase : Phase) (zs : List Vector) (x : Bricks) (ms : List Move) (last : Bricks) →
      IsRun p phase zs x ms last → AreShortSteps (steps_from p phase x ms)
  run_short phase zs x [] last run = All-nil (λ (s : Step). s.k < 64)
  run_short phase zs x (m ∷ ms) last run =
      let here = length_short m.k run.0.augments.candidate.length in
      All-cons (λ (s : Step). s.k < 64) (step_at p phase x m) (steps_from p phase (moved x m.k m.bricks) ms) here
      (run_short phase zs (moved x m.k m.bricks) ms last run.1)

  recorded_short : (phase : Phase) (zs : List Vector) (x : Bricks) (made : RunRecord) (last : Bricks) →
      IsRecorded p phase zs x made last → AreShortSteps made.steps
  recorded_short phase zs x made last is =
      subst AreShortSteps (sym is.steps) (run_short phase zs x is.moves last is.run)

  counted_short : (b : Bases) (x : Bricks) (made : Option RunRecord) (y : Bricks) → CountedPart p b x made y →
      IsShortRun made
  counted_short b x None y part = tt
  counted_short b x (Some made) y (misses, sums, all, is) = recorded_short Counted (vectors sums) x made y is

  closed_short : (b : Bases) (x : Bricks) (made : Option RunRecord) (y : Bricks) → ClosedPart p b x made y →
      IsShortRun made
  closed_short b x None y part = absurd part
  closed_short b x (Some made) y (sums, all, is) = recorded_short Closed (vectors sums) x made y is

  stuck_short : (basis : List Vector) (number residual : ℕ) (v : Vector) (traces : List (List BrickMove)) →
      FirstStuck p basis number residual v traces → All AreShort traces
  stuck_short basis number residual v traces stuck =
      let before = settled_short basis _ stuck.earlier stuck.joint stuck.settled in
      let last = brick_run_short basis stuck.brick (nearest_point stuck.brick) stuck.last v stuck.run in
      subst (All AreShort) (sym stuck.all) (All-push AreShort stuck.earlier stuck.last before last)

  -- no run of an outcome has a longer step
  pub record IsShort (o : Outcome) : Type 0 where
    pub bricks : All AreShort o.traces
    pub counted : IsShortRun o.counted
    pub closed : IsShortRun o.closed

  none_short : (made : Option RunRecord) → made ≡ None → IsShortRun made
  none_short made none = subst IsShortRun (sym none) tt

  pub outcome_short : (o : Outcome) → IsOutcome p o → IsShort o
  outcome_short o is = by o.verdict is
    where
      by : (v : Verdict) → IsOutcome p (record o { verdict = v }) → IsShort o
      by (InfeasibleBrick number residual) (basis, v, slack, stuck, at, counted, closed) = record {
        bricks = stuck_short basis number residual v o.traces stuck;
        counted = none_short o.counted counted;
        closed = none_short o.closed closed;
      }
      by (InfeasibleLink residual) (b, x, bases, settles, part, left, above, closed) = record {
        bricks = settled_short b.brick p.bricks o.traces x settles;
        counted = counted_short b x o.counted o.point part;
        closed = none_short o.closed closed;
      }
      by (Optimal cost) (b, x, y, bases, settles, part, met, last, costs) = record {
        bricks = settled_short b.brick p.bricks o.traces x settles;
        counted = counted_short b x o.counted y part;
        closed = closed_short b y o.closed o.point last;
      }
