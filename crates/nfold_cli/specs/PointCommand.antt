-- `point P [--rel]`: whether a point is feasible, and its cost.
use Rattle.std.specs.Prelude.{◌≡◌, Bool, List, Option, Some, None, Result, Ok}
use Rattle.fold_theory.specs.declared.Broken.{Broken}
use Rattle.fold_theory.specs.Programs.{Program, Bricks, IsFeasible, cost}
use Rattle.fold_theory.specs.Breaks.{first_break}
use Rattle.fold_shelf.specs.Outside.{File}
use Rattle.mat_files.specs.Tokens.{and_then}
use Rattle.fold_files.specs.declared.ReadFault.{ReadFault}
use Rattle.fold_files.specs.Reading.{program_in, point_in}
use Rattle.nfold_cli.specs.declared.status.Status.{Status}
use Rattle.nfold_cli.specs.declared.status.Status.TheVariants as status
use Rattle.nfold_cli.specs.Texts.{point_text}
use Rattle.nfold_cli.specs.Words.{Word}
use Rattle.nfold_cli.specs.Endings.{Ending, ending}

-- a program and a point of it
pub record Pointed : Type 0 where
  pub program : Program
  pub point : Bricks

-- the program and the point in the files, or the first fault
abbrev pub pointed_in : Word → Bool → List File → Result Pointed ReadFault
pointed_in prefix relations files =
    and_then (program_in files prefix relations) (λ p. and_then (point_in files prefix p)
    (λ x. Ok (record { program = p; point = x.rows })))

abbrev pub broken_status : Option Broken → Status
broken_status None = status.Done
broken_status (Some b) = status.No

-- whether the point is feasible, and its cost
abbrev pub verdict_ending : Program → Bricks → Ending
verdict_ending p x = ending (broken_status (first_break p x)) (point_text (first_break p x) (cost p x))

abbrev pub IsPointEnding : Pointed → Ending → Type 0
IsPointEnding read e = e ≡ verdict_ending read.program read.point

-- what is said of the point is true: it is feasible and has this cost, or it is not feasible
pub record IsTruePoint (read : Pointed) (e : Ending) : Type 0 where
  pub done : e.status ≡ status.Done → IsFeasible read.program read.point
      × (e.text ≡ point_text None (cost read.program read.point))
  pub no : e.status ≡ status.No → IsFeasible read.program read.point → ⊥
