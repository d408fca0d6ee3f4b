-- The trace of an outcome tells how many steps each phase makes, and they are few.
use Rattle.std.proofs.Common.{◌≡◌, ℕ, suc, unsigned_abs, List, [], ◌∷◌, ◌++◌, length, flat_map, Option, Some, None}
use Rattle.std.proofs.Common.{IfSome, refl, ap, sym, ◌∙◌, subst}
use Rattle.lattice_theory.specs.SignedSums.{Sum, vectors}
use Rattle.fold_theory.specs.declared.Phase.{Phase}
use Rattle.fold_theory.specs.declared.Phase.TheVariants.{Closed, Counted}
use Rattle.fold_theory.specs.declared.Verdict.{Verdict}
use Rattle.fold_theory.specs.declared.Verdict.TheVariants.{Optimal, InfeasibleBrick, InfeasibleLink}
use Rattle.fold_theory.specs.Programs.{Program, IsProgram, Bricks, link_rests, link_miss}
use Rattle.run_theory.specs.Links.{Bases, AreBases}
use Rattle.run_theory.specs.BrickSums.{AreBrickSums}
use Rattle.run_theory.specs.Steps.{Move, moved}
use Rattle.run_theory.specs.Starts.{IsStart}
use Rattle.run_theory.specs.Outcomes.{Outcome, Step, RunRecord, IsRecorded, steps_from, CountedPart, ClosedPart}
use Rattle.run_theory.specs.Outcomes.{IsOutcome}
use Rattle.run_laws.proofs.PhaseRuns.{run_best}
use Rattle.run_laws.proofs.TrueOutcomes.{settled_start}
use Rattle.count_laws.proofs.FewSteps.{few_steps}
use Rattle.nfold_cli.specs.RunTexts.{step_text, made_text}
use Rattle.nfold_cli.specs.StepCounts.{gained, IsTold, AreTold}

module _ (p : Program) (program : IsProgram p) where
  module _ (b : Bases) (bases : AreBases p b) where
    -- phase Counted ends where it could start
    counted_start : (x y : Bricks) (made : Option RunRecord) → IsStart p Counted x → CountedPart p b x made y →
        IsStart p Counted y
    counted_start x y None start part = subst (IsStart p Counted) (sym part.1) start
    counted_start x y (Some made) start part =
        (run_best p Counted b part.1 part.3.moves x y program bases part.2 start part.3.run).start

    -- ---- what is told of a run

    length-steps : (phase : Phase) (moves : List Move) (x : Bricks) →
        length (steps_from p phase x moves) ≡ length moves
    length-steps phase [] x = refl
    length-steps phase (m ∷ moves) x = ap suc (length-steps phase moves (moved x m.k m.bricks))

    recorded_told : (phase : Phase) (sums : List Sum) (x y : Bricks) (made : RunRecord) →
        AreBrickSums p phase b sums → IsStart p phase x → IsRecorded p phase (vectors sums) x made y →
        IsTold p phase made
    recorded_told phase sums x y made all start is =
        let gain : made.gain ≡ gained p phase x y = ap unsigned_abs is.fallen in
        let many : length made.steps ≡ length is.moves = ap length is.steps ∙ length-steps phase is.moves x in
        let steps : List Step → List ℕ = flat_map (step_text phase p.brick.cols) in
        record {
          bases = b;
          are = bases;
          sums = sums;
          all = all;
          first = x;
          start = start;
          last = y;
          made = is;
          lines = λ i. steps (is.steps i) ++ made_text phase (many i) (is.factor i) (gain i);
          few = few_steps p phase b sums x y is.moves program bases all start is.run;
        }

    counted_told : (x y : Bricks) (made : Option RunRecord) → IsStart p Counted x → CountedPart p b x made y →
        IfSome made (IsTold p Counted)
    counted_told x y None start part = tt
    counted_told x y (Some made) start part = recorded_told Counted part.1 x y made part.2 start part.3

    closed_told : (x y : Bricks) (made : Option RunRecord) → IsStart p Closed x → ClosedPart p b x made y →
        IfSome made (IsTold p Closed)
    closed_told x y None start part = tt
    closed_told x y (Some made) start part = recorded_told Closed part.0 x y made part.1 start part.2

  -- ---- by the verdict

  none_told : (phase : Phase) (made : Option RunRecord) → made ≡ None → IfSome made (IsTold p phase)
  none_told phase made none = subst (λ m. IfSome m (IsTold p phase)) (sym none) tt

  -- where no linking row is missed, phase Closed can start
  closed_start : (y : Bricks) → IsStart p Counted y → link_miss p (link_rests p y) ≡ 0 → IsStart p Closed y
  closed_start y start none = record { within = start.within; brick_rows = start.brick_rows; end = none }

  pub outcome_told : (o : Outcome) → IsOutcome p o → AreTold p o
  outcome_told o is = by o.verdict is
    where
      by : (v : Verdict) → IsOutcome p (record o { verdict = v }) → AreTold p o
      by (InfeasibleBrick number residual) (basis, v, slack, stuck, at, counted, closed) = record {
        counted = none_told Counted o.counted counted;
        closed = none_told Closed o.closed closed;
      }
      by (InfeasibleLink residual) (b, x, bases, settles, part, left, above, closed) = record {
        counted =
            counted_told b bases x o.point o.counted (settled_start p b.brick o.traces x program settles) part;
        closed = none_told Closed o.closed closed;
      }
      by (Optimal cost) (b, x, y, bases, settles, part, none, last, costs) =
          let start = settled_start p b.brick o.traces x program settles in
          let end = counted_start b bases x y o.counted start part in
          record {
            counted = counted_told b bases x y o.counted start part;
            closed = closed_told b bases y o.point o.closed (closed_start y end none) last;
          }
