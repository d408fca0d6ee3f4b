-- `trial NUMBER N`: the outcome of a transport program, and what the checker says of its certificate.
use Rattle.std.specs.Prelude.{◌≡◌, ℕ, ◌+◌, length, Option, Some, None}
use Rattle.fold_theory.specs.Programs.{Program}
use Rattle.run_theory.specs.Certificates.{Certificate}
use Rattle.run_theory.specs.Outcomes.{Outcome, RunRecord}
use Rattle.run_theory.specs.Limits.{Caps}
use Rattle.cert_checker.specs.Answers.{checked}
use Rattle.fold_gen.specs.Transports.{transport}
use Rattle.nfold_cli.specs.declared.status.Status.TheVariants as status
use Rattle.nfold_cli.specs.RunTexts.{trial_text}
use Rattle.nfold_cli.specs.Endings.{Ending, ending}
use Rattle.nfold_cli.specs.SolveCommand.{IsReached, IsTrueEnding}

-- the limits of a trial
abbrev pub trial_caps : Caps
trial_caps = record { basis = 500; sums = 5000 }

-- how many steps a run made, where there was one
abbrev pub steps_in : Option RunRecord → ℕ
steps_in None = 0
steps_in (Some r) = length r.steps

-- how many steps both phases made
abbrev pub steps_made : Option RunRecord → Option RunRecord → ℕ
steps_made counted closed = steps_in counted + steps_in closed

-- the line on the certificate and the outcome of a program
abbrev pub tried_ending : ℕ → ℕ → Program → Certificate → Outcome → Ending
tried_ending number bricks p c o =
    ending status.Done (trial_text number bricks o.verdict (steps_made o.counted o.closed) (checked p c))

-- the line on the outcome of the program and its certificate, all of it reached within the limits: none is passed
abbrev pub IsTrialEnding : ℕ → ℕ → Ending → Type 0
IsTrialEnding number bricks e =
    (o : Outcome) × (c : Certificate) × IsReached (transport number bricks) trial_caps o c
    × (e ≡ tried_ending number bricks (transport number bricks) c o)

-- the line is on an outcome whose verdict is true of the program, and whose certificate is accepted
abbrev pub IsTrueTrial : ℕ → ℕ → Ending → Type 0
IsTrueTrial number bricks =
    IsTrueEnding (transport number bricks) (tried_ending number bricks (transport number bricks))
