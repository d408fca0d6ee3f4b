-- `solve P`: the outcome of a program, and its certificate.
use Rattle.std.specs.Prelude.{◌≡◌, ℕ, ◌⊎◌, ◌++◌, Bool, Some}
use Rattle.fold_theory.specs.Programs.{Program}
use Rattle.run_theory.specs.declared.SolveFault.{SolveFault}
use Rattle.run_theory.specs.Certificates.{Certificate}
use Rattle.run_theory.specs.Checker.{Accept}
use Rattle.run_theory.specs.Outcomes.{Outcome, IsOutcome, IsCertificate, HoldsAt}
use Rattle.run_theory.specs.Limits.{Caps, IsLimit}
use Rattle.run_theory.specs.Solved.{IsWithinCaps}
use Rattle.fold_program.specs.declared.FileKind.TheVariants as file
use Rattle.fold_program.specs.Files.{suffix_of}
use Rattle.certificate.specs.CertificateText.{certificate_text}
use Rattle.nfold_cli.specs.declared.words.SolveOptions.{SolveOptions}
use Rattle.nfold_cli.specs.declared.status.Status.TheVariants as status
use Rattle.nfold_cli.specs.RunTexts.{outcome_text, limit_text}
use Rattle.nfold_cli.specs.StepCounts.{AreTold}
use Rattle.nfold_cli.specs.Words.{Word}
use Rattle.nfold_cli.specs.Endings.{Ending, ending}

-- the most elements of a basis and the most sums that the options allow
abbrev pub caps_of : SolveOptions → Caps
caps_of o = record { basis = o.basis; sums = o.sums }

-- the line on a limit
abbrev pub limit_ending : SolveFault → Ending
limit_ending f = ending status.Limit (limit_text f)

-- the file of the certificate
abbrev pub certificate_name : Word → Word
certificate_name prefix = prefix ++ suffix_of file.Cert

-- the text of the outcome, of a program with so many columns, and its certificate as the file to be stored
abbrev pub solved_ending : Word → Bool → ℕ → Certificate → Outcome → Ending
solved_ending prefix trace t c o = record {
  status = status.Done;
  text = outcome_text t trace o;
  stored = Some (record { name = certificate_name prefix; bytes = certificate_text c });
}

-- the outcome of the program with its certificate, all of it reached within the limits
pub record IsReached (p : Program) (caps : Caps) (o : Outcome) (c : Certificate) : Type 0 where
  pub outcome : IsOutcome p o
  pub certificate : IsCertificate p o c
  pub within : IsWithinCaps p caps o.verdict

-- the limit that is the first to be passed, or else an ending of the outcome and its certificate
abbrev pub IsEndingWithin : Program → Caps → (Certificate → Outcome → Ending) → Ending → Type 0
IsEndingWithin p caps ending_of e =
    ((f : SolveFault) × IsLimit p caps f × (e ≡ limit_ending f))
    ⊎ ((o : Outcome) × (c : Certificate) × IsReached p caps o c × (e ≡ ending_of c o))

abbrev pub IsSolveEnding : Word → SolveOptions → Program → Ending → Type 0
IsSolveEnding prefix options p =
    IsEndingWithin p (caps_of options) (solved_ending prefix options.trace p.brick.cols)

-- the outcome is that of the program, and what its verdict says is true: where it is optimal, the outcome's point is
-- feasible and has that cost, and no feasible point costs less; its certificate is accepted; and the trace tells how
-- many steps each phase makes, which are few
pub record IsTrueOutcome (p : Program) (o : Outcome) (c : Certificate) : Type 0 where
  pub outcome : IsOutcome p o
  pub certificate : IsCertificate p o c
  pub accepted : Accept p c
  pub holds : HoldsAt p o
  pub told : AreTold p o

-- where a text was made, the ending is that of such an outcome and its certificate
abbrev pub IsTrueEnding : Program → (Certificate → Outcome → Ending) → Ending → Type 0
IsTrueEnding p ending_of e =
    e.status ≡ status.Done → (o : Outcome) × (c : Certificate) × IsTrueOutcome p o c × (e ≡ ending_of c o)

abbrev pub IsTrueSolve : Word → SolveOptions → Program → Ending → Type 0
IsTrueSolve prefix options p = IsTrueEnding p (solved_ending prefix options.trace p.brick.cols)
