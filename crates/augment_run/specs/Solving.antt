-- What the answers of a solve say.
use Rattle.std.specs.Prelude.{◌≡◌}
use Rattle.fold_theory.specs.Programs.{Program}
use Rattle.run_theory.specs.declared.SolveFault.{SolveFault}
use Rattle.run_theory.specs.declared.SolveFault.TheVariants as fault
use Rattle.run_theory.specs.Limits.{Caps, IsLimit}
use Rattle.run_theory.specs.Outcomes.{Outcome, IsOutcome, IsCertificate, HoldsAt}
use Rattle.run_theory.specs.Checker.{Accept}
use Rattle.run_theory.specs.Solved.{SolvedValue, solved_value, IsWithinCaps}
use Rattle.augment_run.specs.declared.settings.Settings.{Settings}

-- the most elements of a basis and the most sums that the settings allow
abbrev pub caps_of : Settings → Caps
caps_of s = record { basis = s.max_basis; sums = s.max_sums }

-- the outcome of the program with its certificate, which is accepted; what the verdict says is true, and the outcome is
-- reached within the limits, none of which is passed
pub record IsSolved (p : Program) (c : Caps) (v : SolvedValue) : Type 0 where
  pub outcome : Outcome
  pub is : IsOutcome p outcome
  pub value : v ≡ solved_value outcome v.certificate
  pub certificate : IsCertificate p outcome v.certificate
  pub reached : IsWithinCaps p c outcome.verdict
  pub within : (f : SolveFault) → IsLimit p c f → ⊥
  pub accepted : Accept p v.certificate
  pub holds : HoldsAt p outcome

-- the fault is the limit that is the first to be passed; want of memory may come at any time
abbrev pub IsSolveFault : Program → Caps → SolveFault → Type 0
IsSolveFault p c fault.BrickBasis = IsLimit p c fault.BrickBasis
IsSolveFault p c (fault.LinkEntry row col) = IsLimit p c (fault.LinkEntry row col)
IsSolveFault p c fault.LinkBasis = IsLimit p c fault.LinkBasis
IsSolveFault p c (fault.Sums phase) = IsLimit p c (fault.Sums phase)
IsSolveFault p c (fault.Table phase) = IsLimit p c (fault.Table phase)
IsSolveFault p c fault.Memory = Unit {0}
