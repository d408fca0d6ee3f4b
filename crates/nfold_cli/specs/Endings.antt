-- How a run ends, by what its words ask for: its status, its text, and the file that it stores before.
use Rattle.std.specs.Prelude.{◌≡◌, ℕ, List, [], ◌++◌, Option, None, Result, Ok, Err, codes}
use Rattle.fold_shelf.specs.Outside.{File}
use Rattle.fold_program.specs.declared.FileKind.{FileKind}
use Rattle.fold_program.specs.declared.FileKind.TheVariants as file
use Rattle.fold_program.specs.declared.ProgramFault.{ProgramFault}
use Rattle.fold_program.specs.declared.ProgramFault.TheVariants as program
use Rattle.fold_program.specs.Files.{suffix_of}
use Rattle.fold_files.specs.declared.ReadFault.{ReadFault}
use Rattle.fold_files.specs.declared.ReadFault.TheVariants as read
use Rattle.nfold_cli.specs.declared.status.Status.{Status}
use Rattle.nfold_cli.specs.declared.status.Status.TheVariants as status
use Rattle.nfold_cli.specs.Texts.{at_byte, at_column, mat_fault_text, cost_fault_text, input_text, read_text}
use Rattle.nfold_cli.specs.Texts.{memory_text}

-- the status that a run answers, the text that it writes, and the file that it stores before its text
pub record Ending : Type 0 where
  pub status : Status
  pub text : List ℕ
  pub stored : Option File

-- nothing is stored
abbrev pub ending : Status → List ℕ → Ending
ending s text = record { status = s; text = text; stored = None }

-- the number with which the program ends
abbrev pub status_number : Status → ℕ
status_number status.Done = 0
status_number status.No = 1
status_number status.Usage = 2
status_number status.Input = 3
status_number status.Limit = 4
status_number status.ReadFault = 5
status_number status.WriteFault = 6
status_number status.Memory = 7

-- a text was made for the output
abbrev pub IsWritten : Status → Type 0
IsWritten status.Done = Unit {0}
IsWritten status.No = Unit {0}
IsWritten s = ⊥

-- an answer after which nothing was stored, nor written on the output
abbrev pub IsRefusal : Status → Type 0
IsRefusal status.Usage = Unit {0}
IsRefusal status.Input = Unit {0}
IsRefusal status.Limit = Unit {0}
IsRefusal status.ReadFault = Unit {0}
IsRefusal s = ⊥

-- ---- refusals

-- a file is refused
abbrev pub input_ending : List ℕ → FileKind → List ℕ → Ending
input_ending prefix kind what = ending status.Input (input_text (prefix ++ suffix_of kind) what)

-- a file could not be read
abbrev pub read_ending : List ℕ → Ending
read_ending name = ending status.ReadFault (read_text name)

-- which file makes that the program is refused as a whole
abbrev pub program_fault_file : ProgramFault → FileKind
program_fault_file (program.Shape kind) = kind
program_fault_file (program.CrossedBounds i j) = file.Upper
program_fault_file (program.Cost i j f) = file.Costs
program_fault_file program.CostSumTooLarge = file.Costs
program_fault_file program.Memory = file.Plain

-- and what is wrong with it; nothing where memory ran out
abbrev pub program_fault_text : ProgramFault → List ℕ
program_fault_text (program.Shape kind) = codes "shape"
program_fault_text (program.CrossedBounds i j) = at_column (codes "crossed") i j
program_fault_text (program.Cost i j f) = cost_fault_text i j f
program_fault_text program.CostSumTooLarge = codes "cost-sum"
program_fault_text program.Memory = []

-- which file a fault of reading is about
abbrev pub fault_file : ReadFault → FileKind
fault_file (read.Shelf kind) = kind
fault_file (read.TooLong kind) = kind
fault_file (read.Form kind f) = kind
fault_file (read.Costs at) = file.Costs
fault_file (read.Relations at) = file.Relations
fault_file (read.Program f) = program_fault_file f
fault_file read.Memory = file.Plain

-- and what is wrong with it; nothing where it could not be read, or memory ran out
abbrev pub fault_text : ReadFault → List ℕ
fault_text (read.Shelf kind) = []
fault_text (read.TooLong kind) = codes "too-long"
fault_text (read.Form kind f) = mat_fault_text f
fault_text (read.Costs at) = at_byte (codes "syntax") at
fault_text (read.Relations at) = at_byte (codes "syntax") at
fault_text (read.Program f) = program_fault_text f
fault_text read.Memory = []

-- reading stops by this fault
abbrev pub fault_ending : List ℕ → ReadFault → Ending
fault_ending prefix (read.Shelf kind) = read_ending (prefix ++ suffix_of kind)
fault_ending prefix read.Memory = ending status.Memory memory_text
fault_ending prefix f = input_ending prefix (fault_file f) (fault_text f)

-- ---- what was read, or why nothing was

-- the ending is one on what was read, or the refusal
abbrev pub IsEndingOf : {A : Type 0} → List ℕ → (A → Ending → Type 0) → Result A ReadFault → Ending → Type 0
IsEndingOf prefix Ends (Err f) e = e ≡ fault_ending prefix f
IsEndingOf prefix Ends (Ok a) e = Ends a e
