-- The texts of `solve` and `trial`: the trace of the steps, the outcome, the line of a trial, and the limits.
use Rattle.std.specs.Prelude.{ℕ, suc, ◌^◌, List, [], ◌∷◌, ◌++◌, length, flat_map, take, drop, cond, Bool, Option, Some}
use Rattle.std.specs.Prelude.{None, codes}
use Rattle.std.specs.Fmt.{decimal, signed_decimal}
use Rattle.lattice_theory.specs.Vectors.{Vector}
use Rattle.fold_theory.specs.declared.Phase.{Phase}
use Rattle.fold_theory.specs.declared.Phase.TheVariants.{Closed, Counted}
use Rattle.fold_theory.specs.declared.Verdict.{Verdict}
use Rattle.fold_theory.specs.declared.Verdict.TheVariants.{Optimal, InfeasibleBrick, InfeasibleLink}
use Rattle.fold_theory.specs.Programs.{Bricks}
use Rattle.run_theory.specs.declared.SolveFault.{SolveFault}
use Rattle.run_theory.specs.declared.SolveFault.TheVariants as limit
use Rattle.run_theory.specs.BrickRuns.{BrickMove}
use Rattle.run_theory.specs.Outcomes.{Step, RunRecord, Outcome}
use Rattle.run_theory.specs.Digits.{binary_digits}
use Rattle.mat_files.specs.MatrixText.{matrix_text}
use Rattle.cert_checker.specs.declared.answer.Check.{Check}
use Rattle.cert_checker.specs.declared.answer.Check.TheVariants as check
use Rattle.nfold_cli.specs.Texts.{verdict_text, memory_text}

-- the name of a phase
abbrev pub phase_text : Phase → List ℕ
phase_text Closed = codes "closed"
phase_text Counted = codes "counted"

-- ---- the trace

-- the numbers, each after a space
abbrev pub spaced_text : Vector → List ℕ
spaced_text [] = []
spaced_text (a ∷ v) = codes " " ++ signed_decimal a ++ spaced_text v

-- the line of a step of brick i
abbrev pub brick_step_text : ℕ → BrickMove → List ℕ
brick_step_text i m =
    codes "brick " ++ decimal i ++ codes " length " ++ decimal (2 ^ m.k) ++ codes " vector" ++ spaced_text m.vector ++
    codes "\n"

-- the lines of the bricks from number i on
abbrev pub brick_runs_text : ℕ → List (List BrickMove) → List ℕ
brick_runs_text i [] = []
brick_runs_text i (ms ∷ traces) = flat_map (brick_step_text i) ms ++ brick_runs_text (suc i) traces

-- the parts of a step, t entries for each of its bricks
abbrev pub parts_text : ℕ → List ℕ → Vector → List ℕ
parts_text t [] entries = []
parts_text t (i ∷ bricks) entries = codes " at " ++ decimal i ++ spaced_text (take t entries) ++ parts_text t bricks
    (drop t entries)

-- the line of a step of a phase
abbrev pub step_text : Phase → ℕ → Step → List ℕ
step_text phase t s =
    phase_text phase ++ codes " length " ++ decimal (2 ^ s.k) ++ codes " gain " ++ decimal s.gain ++ parts_text t
    s.bricks s.entries ++ codes "\n"

-- the line after the steps of a phase: how many there are, the bound number, and the binary digits of the whole gain
abbrev pub made_text : Phase → ℕ → ℕ → ℕ → List ℕ
made_text phase made factor gain =
    phase_text phase ++ codes " made " ++ decimal made ++ codes " factor " ++ decimal factor ++ codes " digits "
    ++ decimal (binary_digits gain) ++ codes "\n"

-- the lines of a phase that ran
abbrev pub run_text : Phase → ℕ → Option RunRecord → List ℕ
run_text phase t None = []
run_text phase t (Some r) = flat_map (step_text phase t) r.steps ++ made_text phase (length r.steps) r.factor r.gain

-- ---- the outcome

-- the verdict, and the point where it is optimal
abbrev pub answer_text : ℕ → Verdict → Bricks → List ℕ
answer_text t (Optimal c) x = codes "optimal\ncost " ++ signed_decimal c ++ codes "\n" ++ matrix_text
    (record { cols = t; rows = x })
answer_text t (InfeasibleBrick i d) x = verdict_text (InfeasibleBrick i d) ++ codes "\n"
answer_text t (InfeasibleLink d) x = verdict_text (InfeasibleLink d) ++ codes "\n"

-- the trace where it is asked for, and the answer
abbrev pub outcome_text : ℕ → Bool → Outcome → List ℕ
outcome_text t trace o =
    cond trace (brick_runs_text 1 o.traces ++ run_text Counted t o.counted ++ run_text Closed t o.closed) []
    ++ answer_text t o.verdict o.point

-- ---- a trial

-- what the checker says
abbrev pub answer_words : Check → List ℕ
answer_words (check.Yes v) = codes " check yes\n"
answer_words (check.No r) = codes " check no\n"

-- the line of a trial: its number and its bricks, the verdict, the number of steps, and what the checker says
abbrev pub trial_text : ℕ → ℕ → Verdict → ℕ → Check → List ℕ
trial_text number bricks v made answer =
    codes "trial number " ++ decimal number ++ codes " bricks " ++ decimal bricks ++ codes " " ++ verdict_text v
    ++ codes " made " ++ decimal made ++ answer_words answer

-- ---- the limits

-- the line on the limit that is passed; want of memory is no limit
abbrev pub limit_text : SolveFault → List ℕ
limit_text limit.BrickBasis = codes "limit: brick-basis\n"
limit_text (limit.LinkEntry row col) = codes "limit: link-entry row " ++ decimal row ++ codes " column " ++ decimal col
    ++ codes "\n"
limit_text limit.LinkBasis = codes "limit: link-basis\n"
limit_text (limit.Sums phase) = codes "limit: sums " ++ phase_text phase ++ codes "\n"
limit_text (limit.Table phase) = codes "limit: table " ++ phase_text phase ++ codes "\n"
limit_text limit.Memory = memory_text
