-- The text of what was solved.
use Rattle.std.specs.Prelude.{ℕ, ◌<◌, List, ◌++◌, All, IfSome, Option}
use Rattle.fold_theory.specs.declared.Phase.TheVariants.{Closed, Counted}
use Rattle.run_theory.specs.BrickRuns.{BrickMove}
use Rattle.run_theory.specs.Outcomes.{Step, RunRecord, Outcome}
use Rattle.run_theory.specs.Solved.{SolvedValue}
use Rattle.nfold_cli.specs.RunTexts.{brick_runs_text, run_text}

-- the lines on all steps
abbrev pub trace_text : ℕ → Outcome → List ℕ
trace_text t o = brick_runs_text 1 o.traces ++ run_text Counted t o.counted ++ run_text Closed t o.closed

-- the outcome that was solved, with the certificate's point
abbrev pub solved_outcome : SolvedValue → Outcome
solved_outcome v = record {
  verdict = v.verdict;
  point = v.certificate.point.rows;
  traces = v.traces;
  counted = v.counted;
  closed = v.closed;
}

-- no length is above 2 ^ 63
abbrev pub AreShort : List BrickMove → Type 0
AreShort moves = All (λ m. m.k < 64) moves

abbrev pub AreShortSteps : List Step → Type 0
AreShortSteps steps = All (λ s. s.k < 64) steps

abbrev pub IsShortRun : Option RunRecord → Type 0
IsShortRun run = IfSome run (λ r. AreShortSteps r.steps)

pub record HasShortSteps (v : SolvedValue) : Type 0 where
  pub bricks : All AreShort v.traces
  pub counted : IsShortRun v.counted
  pub closed : IsShortRun v.closed
