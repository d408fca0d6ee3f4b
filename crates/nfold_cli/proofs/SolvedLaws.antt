-- What was solved is the outcome of the program, with its certificate; and what is made of it is an ending of `solve`.
use Rattle.std.proofs.Common.{◌≡◌, ◌≢◌, ◌^◌, ◌≤◌, List, Option, All, Result, Ok, Err, IfOk, refl, ap, sym, subst, ◌∙◌}
use Rattle.std.proofs.Common.{inl, inr}
use Rattle.fold_theory.specs.declared.Verdict.{Verdict}
use Rattle.fold_theory.specs.Programs.{Program, IsProgram, Bricks, widest}
use Rattle.run_theory.specs.declared.SolveFault.{SolveFault}
use Rattle.run_theory.specs.declared.SolveFault.TheVariants as fault
use Rattle.run_theory.specs.BrickRuns.{BrickMove}
use Rattle.run_theory.specs.Certificates.{Certificate}
use Rattle.run_theory.specs.Outcomes.{Outcome, RunRecord}
use Rattle.run_theory.specs.Limits.{Caps, IsLimit}
use Rattle.run_theory.specs.Solved.{SolvedValue, solved_value}
use Rattle.augment_run.specs.Solving.{IsSolved, IsSolveFault}
use Rattle.nfold_cli.specs.declared.words.SolveOptions.{SolveOptions}
use Rattle.nfold_cli.specs.Words.{Word}
use Rattle.nfold_cli.specs.Endings.{Ending}
use Rattle.nfold_cli.specs.SolvedTexts.{AreShort, IsShortRun, HasShortSteps, solved_outcome}
use Rattle.nfold_cli.specs.SolveCommand.{caps_of, limit_ending, solved_ending, IsEndingWithin, IsSolveEnding}
use Rattle.nfold_cli.specs.SolveCommand.{IsTrueEnding, IsTrueSolve}
use Rattle.nfold_cli.proofs.ShortLaws.{outcome_short}
use Rattle.nfold_cli.proofs.StepCountLaws.{outcome_told}

abbrev outcome_with : Verdict → Bricks → List (List BrickMove) → Option RunRecord → Option RunRecord → Outcome
outcome_with v x ts a b = record { verdict = v; point = x; traces = ts; counted = a; closed = b }

same_outcome : (v w : Verdict) (x y : Bricks) (ts us : List (List BrickMove)) (a b c d : Option RunRecord) → v ≡ w
    → x ≡ y → ts ≡ us → a ≡ b → c ≡ d → outcome_with v x ts a c ≡ outcome_with w y us b d
same_outcome v w x y ts us a b c d verdict point traces counted closed =
    λ i. outcome_with (verdict i) (point i) (traces i) (counted i) (closed i)

-- what is read back is what was printed
pub same_value : {E : Type 0} (c d : Certificate) → ◌≡◌ {A = Result Certificate E} (Ok c) (Ok d) → c ≡ d
same_value c d same = cc

-- the ending is one of an outcome, and what it says is true
pub record IsFound (p : Program) (caps : Caps) (ending_of : Certificate → Outcome → Ending) (e : Ending) : Type 0 where
  pub ends : IsEndingWithin p caps ending_of e
  pub holds : IsTrueEnding p ending_of e

module _ (p : Program) (caps : Caps) (v : SolvedValue) (solved : IsSolved p caps v) where
  pub columns_are : v.certificate.point.cols ≡ p.brick.cols
  columns_are = ap (λ m. m.cols) solved.certificate.0

  outcome_is : solved_outcome v ≡ solved.outcome
  outcome_is =
      let is : v ≡ solved_value solved.outcome v.certificate = solved.value in
      same_outcome v.verdict solved.outcome.verdict v.certificate.point.rows solved.outcome.point v.traces
      solved.outcome.traces v.counted solved.outcome.counted v.closed solved.outcome.closed
      (ap (λ (u : SolvedValue). u.verdict) is) (ap (λ m. m.rows) solved.certificate.0)
      (ap (λ (u : SolvedValue). u.traces) is)
      (ap (λ (u : SolvedValue). u.counted) is) (ap (λ (u : SolvedValue). u.closed) is)

  pub solved_short : widest p ≤ 2 ^ 63 → HasShortSteps v
  solved_short close =
      let short = outcome_short p close solved.outcome solved.is in
      let is : v ≡ solved_value solved.outcome v.certificate = solved.value in
      record {
        bricks = subst (All AreShort) (sym (ap (λ (u : SolvedValue). u.traces) is)) short.bricks;
        counted = subst IsShortRun (sym (ap (λ (u : SolvedValue). u.counted) is)) short.counted;
        closed = subst IsShortRun (sym (ap (λ (u : SolvedValue). u.closed) is)) short.closed;
      }

  pub found : IsProgram p → (ending_of : Certificate → Outcome → Ending) (e : Ending)
      → e ≡ ending_of v.certificate (solved_outcome v) → IsFound p caps ending_of e
  found program ending_of e is =
      let made : e ≡ ending_of v.certificate solved.outcome = is ∙ ap (ending_of v.certificate) outcome_is in
      record {
        ends =
            inr (
              solved.outcome,
              v.certificate,
              record {
                outcome = solved.is;
                certificate = solved.certificate;
                within = solved.reached;
              },
              made,
            );
        holds = λ done. (
          solved.outcome,
          v.certificate,
          record {
            outcome = solved.is;
            certificate = solved.certificate;
            accepted = solved.accepted;
            holds = solved.holds;
            told = outcome_told p program solved.outcome solved.is;
          },
          made,
        );
      }

-- a limit that is passed
pub limit_passed : (p : Program) (caps : Caps) (f : SolveFault) → f ≢ fault.Memory → IsSolveFault p caps f
    → IsLimit p caps f
limit_passed p caps fault.BrickBasis found passed = passed
limit_passed p caps (fault.LinkEntry row col) found passed = passed
limit_passed p caps fault.LinkBasis found passed = passed
limit_passed p caps (fault.Sums phase) found passed = passed
limit_passed p caps (fault.Table phase) found passed = passed
limit_passed p caps fault.Memory found passed = absurd (found refl)

pub limited : (p : Program) (caps : Caps) (ending_of : Certificate → Outcome → Ending) (f : SolveFault) (e : Ending)
    → f ≢ fault.Memory
    → IsSolveFault p caps f → e ≡ limit_ending f → IsFound p caps ending_of e
limited p caps ending_of f e found passed is = record {
  ends = inl (f, limit_passed p caps f found passed, is);
  holds = λ done. absurd (cc);
}

-- ---- the same of the answer of a call

all_found : {E : Type 0} (r : Result Ending E) (p : Program) (caps : Caps)
    (ending_of : Certificate → Outcome → Ending) (P : Ending → Type 0)
    → ((e : Ending) → P e → IsFound p caps ending_of e) → IfOk r P
    → IfOk r (IsEndingWithin p caps ending_of) × IfOk r (IsTrueEnding p ending_of)
all_found (Err x) p caps ending_of P so is = (tt, tt)
all_found (Ok e) p caps ending_of P so is = ((so e is).ends, (so e is).holds)

pub solve_found : {E : Type 0} (r : Result Ending E) (p : Program) (prefix : Word) (options : SolveOptions)
    (v : SolvedValue)
    → IsProgram p → IsSolved p (caps_of options) v
    → IfOk r (λ e. e ≡ solved_ending prefix options.trace v.certificate.point.cols v.certificate (solved_outcome v))
    → IfOk r (IsSolveEnding prefix options p) × IfOk r (IsTrueSolve prefix options p)
solve_found r p prefix options v program solved made =
    let ending_of : Certificate → Outcome → Ending = solved_ending prefix options.trace p.brick.cols in
    all_found r p (caps_of options) ending_of _
    (λ e is. found p (caps_of options) v solved program ending_of e
    (is ∙ ap (λ t. solved_ending prefix options.trace t v.certificate (solved_outcome v))
    (columns_are p (caps_of options) v solved))) made

pub limit_found : {E : Type 0} (r : Result Ending E) (p : Program) (caps : Caps)
    (ending_of : Certificate → Outcome → Ending) (f : SolveFault)
    → IfOk r (λ e. f ≢ fault.Memory) → IsSolveFault p caps f → IfOk r (λ e. e ≡ limit_ending f)
    → IfOk r (IsEndingWithin p caps ending_of) × IfOk r (IsTrueEnding p ending_of)
limit_found (Err x) p caps ending_of f named passed made = (tt, tt)
limit_found (Ok e) p caps ending_of f named passed made =
    let is = limited p caps ending_of f e named passed made in (is.ends, is.holds)
