-- How a run ends, by the form that its words are: a line for each form.
use Rattle.std.specs.Prelude.{◌≡◌, List, Option, Some, None, Result, Ok}
use Rattle.fold_shelf.specs.Outside.{File}
use Rattle.fold_files.specs.declared.ReadFault.{ReadFault}
use Rattle.fold_files.specs.Reading.{plain_in, program_in}
use Rattle.nfold_cli.specs.declared.status.Status.TheVariants as status
use Rattle.nfold_cli.specs.Texts.{usage_text}
use Rattle.nfold_cli.specs.Words.{Word, FormValue, PointForm, GraverForm, SolveForm, CheckForm, TrialForm, form_of}
use Rattle.nfold_cli.specs.Endings.{Ending, ending, IsEndingOf}
use Rattle.nfold_cli.specs.PointCommand.{pointed_in, IsPointEnding, IsTruePoint}
use Rattle.nfold_cli.specs.GraverCommand.{IsKernelEnding}
use Rattle.nfold_cli.specs.SolveCommand.{certificate_name, IsSolveEnding, IsTrueSolve}
use Rattle.nfold_cli.specs.CheckCommand.{claimed_in, IsCheckEnding, IsTrueCheck}
use Rattle.nfold_cli.specs.TrialCommand.{IsTrialEnding, IsTrueTrial}

-- the ending of a form over these files
abbrev pub IsFormEnding : Option FormValue → List File → Ending → Type 0
IsFormEnding None files e = e ≡ ending status.Usage usage_text
IsFormEnding (Some (PointForm prefix relations)) files e =
    IsEndingOf prefix IsPointEnding (pointed_in prefix relations files) e
IsFormEnding (Some (GraverForm prefix limit)) files e =
    IsEndingOf prefix (IsKernelEnding limit) (plain_in files prefix) e
IsFormEnding (Some (SolveForm prefix workers options)) files e =
    IsEndingOf prefix (IsSolveEnding prefix options) (program_in files prefix options.relations) e
IsFormEnding (Some (CheckForm prefix relations)) files e =
    IsEndingOf prefix (IsCheckEnding prefix) (claimed_in prefix relations files) e
IsFormEnding (Some (TrialForm number bricks)) files e = IsTrialEnding number bricks e

-- the ending of these words over these files
abbrev pub IsEnding : List Word → List File → Ending → Type 0
IsEnding words = IsFormEnding (form_of words)

-- this holds of what was read
abbrev pub OfRead : {A : Type 0} → Result A ReadFault → (A → Type 0) → Type 0
OfRead {A = A} read P = (a : A) × (read ≡ Ok a) × P a

-- what an ending with a text for the output says is true of what the files hold
abbrev pub IsTrueEnd : Option FormValue → List File → Ending → Type 0
IsTrueEnd None files e = Unit {0}
IsTrueEnd (Some (PointForm prefix relations)) files e =
    OfRead (pointed_in prefix relations files) (λ read. IsTruePoint read e)
IsTrueEnd (Some (GraverForm prefix limit)) files e = Unit {0}
IsTrueEnd (Some (SolveForm prefix workers options)) files e =
    OfRead (program_in files prefix options.relations) (λ p. IsTrueSolve prefix options p e)
IsTrueEnd (Some (CheckForm prefix relations)) files e =
    OfRead (claimed_in prefix relations files) (λ read. IsTrueCheck read e)
IsTrueEnd (Some (TrialForm number bricks)) files e = IsTrueTrial number bricks e

-- the file that a run of the form stores: `solve` its certificate
abbrev pub stored_by : Option FormValue → Option Word
stored_by (Some (SolveForm prefix workers options)) = Some (certificate_name prefix)
stored_by form = None
