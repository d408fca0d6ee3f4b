-- The steps below the top call: the answer that is made of the words and files, and how it is given.
use Rattle.std.specs.Prelude.{◌≡◌, ◌≢◌, ℕ, ◌⊎◌, List, Option, Some, None}
use Rattle.fold_shelf.specs.Outside.{File, Folder, Stream, ReadFailed, WriteFailed, SinkFailed, Lacks, without, ForTold}
use Rattle.fold_shelf.specs.Outside.{ForBoth, IsTold, Took, TookPart}
use Rattle.fold_shelf.specs.declared.SinkFault.{SinkFault}
use Rattle.fold_shelf.specs.declared.SinkFault.TheVariants as sink
use Rattle.fold_files.specs.declared.ReadFault.{ReadFault}
use Rattle.fold_files.specs.declared.ReadFault.TheVariants as read
use Rattle.nfold_cli.specs.declared.status.Status.{Status}
use Rattle.nfold_cli.specs.declared.status.Status.TheVariants as status
use Rattle.nfold_cli.specs.Texts.{write_text, memory_text}
use Rattle.nfold_cli.specs.Words.{Word, FormValue, form_of}
use Rattle.nfold_cli.specs.Endings.{Ending, IsWritten, IsRefusal, read_ending, fault_ending}
use Rattle.nfold_cli.specs.Forms.{IsFormEnding, IsTrueEnd, stored_by}
use Rattle.nfold_cli.specs.Running.{Stores, StoresPart, Said}

-- ---- the answer

-- a file that could not be read, where runs end by the files like this: it is absent or a read failed, and it is
-- reached
abbrev pub IsUnread : (List File → Ending → Type 0) → Type 0 → List ℕ → List File → Type 0
IsUnread Ends Failed name files =
    Ends (without files name) (read_ending name)
    × (Lacks files name ⊎ Failed) × (Failed ⊎ Ends files (read_ending name))

-- the answer is the ending and says what is true, or it says which file could not be read
abbrev pub IsToldAnswer : Option FormValue → Type 0 → Ending → List File → Type 0
IsToldAnswer form Failed e files =
    (e.status ≢ status.ReadFault × IsFormEnding form files e × (IsWritten e.status → IsTrueEnd form files e))
    ⊎ ((name : List ℕ) × (e ≡ read_ending name) × IsUnread (IsFormEnding form) Failed name files)

-- a status that a command answers before anything is written
abbrev pub IsOfCommand : Status → Type 0
IsOfCommand status.Done = Unit {0}
IsOfCommand status.No = Unit {0}
IsOfCommand status.Input = Unit {0}
IsOfCommand status.Limit = Unit {0}
IsOfCommand status.ReadFault = Unit {0}
IsOfCommand s = ⊥

abbrev pub IsOfForm : Option FormValue → Status → Type 0
IsOfForm None s = s ≡ status.Usage
IsOfForm (Some form) s = IsOfCommand s

-- a text for the output, or a refusal
abbrev pub IsOfEnding : Status → Type 0
IsOfEnding s = IsWritten s ⊎ IsRefusal s

-- what is to be stored, if anything, is a file of this name
abbrev pub IsStoredAs : Option Word → Option File → Type 0
IsStoredAs name None = Unit {0}
IsStoredAs None (Some f) = ⊥
IsStoredAs (Some name) (Some f) = f.name ≡ name

-- the answer to a form, after what was read
pub record IsAnswer (form : Option FormValue) (before now : Folder) (e : Ending) : Type 0 where
  pub told : ForTold before.files (IsToldAnswer form (ReadFailed before now) e)
  pub read : e.status ≡ status.ReadFault → IsTold before.files (λ files. Unit {0}) ⊎ ReadFailed before now
  pub status : IsOfForm form e.status
  pub stored : IsStoredAs (stored_by form) e.stored

-- the answer where reading stops by the fault
pub record IsRefusalOf (prefix : List ℕ) (fault : ReadFault) (e : Ending) : Type 0 where
  pub found : fault ≢ read.Memory
  pub ending : e ≡ fault_ending prefix fault

-- ---- how it is given

-- what contracts see of the outside
pub record Scene : Type 0 where
  pub folder : Folder
  pub out : Stream
  pub err : Stream

-- no file has changed, and the output has taken nothing
pub record IsUntouched (before now : Scene) : Type 0 where
  pub files : now.folder.files ≡ before.folder.files
  pub taken : now.out.taken ≡ before.out.taken

-- the file stands, and the output has taken the text
pub record IsWhole (e : Ending) (before now : Folder) (out_before out_now : Stream) : Type 0 where
  pub stored : ForBoth before.files now.files (Stores e.stored)
  pub took : ForBoth out_before.taken out_now.taken (Took e.text)

-- a first part of the file, and no text
pub record IsPartStored (e : Ending) (before now : Folder) (out_before out_now : Stream) : Type 0 where
  pub stored : ForBoth before.files now.files (StoresPart e.stored)
  pub taken : out_now.taken ≡ out_before.taken

-- the file, and a first part of the text
pub record IsPartWritten (e : Ending) (before now : Folder) (out_before out_now : Stream) : Type 0 where
  pub stored : ForBoth before.files now.files (Stores e.stored)
  pub took : ForBoth out_before.taken out_now.taken (TookPart e.text)

abbrev pub IsPart : Ending → Folder → Folder → Stream → Stream → Type 0
IsPart e before now out_before out_now = IsPartStored e before now out_before out_now
    ⊎ IsPartWritten e before now out_before out_now

-- why an answer is not given whole: the output has failed, or there was a file to be stored and the shelf has failed
abbrev pub FailsGiving : Ending → Folder → Folder → Stream → Stream → Type 0
FailsGiving e before now out_before out_now = SinkFailed out_before out_now
    ⊎ ((e.stored ≢ None) × WriteFailed before now)

abbrev pub IsHandCause : Ending → Folder → Folder → Stream → Stream → SinkFault → Type 0
IsHandCause e before now out_before out_now sink.Failed = FailsGiving e before now out_before out_now
IsHandCause e before now out_before out_now sink.Memory = Unit {0}

-- the line was said and the status is this one, or there was no memory to say it
abbrev pub IsSaid : Stream → Stream → List ℕ → Status → Status → Type 0
IsSaid before now line s answered =
    ((answered ≡ s) × Said before now line) ⊎ ((answered ≡ status.Memory)
    × ForBoth before.taken now.taken (TookPart line))

-- the text was written whole, and nothing was said
pub record IsGiven (e : Ending) (before now : Scene) (s : Status) : Type 0 where
  pub written : IsWritten e.status
  pub status : s ≡ e.status
  pub whole : IsWhole e before.folder now.folder before.out now.out
  pub quiet : now.err.taken ≡ before.err.taken

-- the text was said
pub record IsRefused (e : Ending) (before now : Scene) (s : Status) : Type 0 where
  pub refusal : IsRefusal e.status
  pub status : s ≡ e.status
  pub untouched : IsUntouched before now
  pub said : Said before.err now.err e.text

-- writing failed
pub record IsBrokenOff (e : Ending) (before now : Scene) (s : Status) : Type 0 where
  pub written : IsWritten e.status
  pub status : s ≡ status.WriteFault
  pub part : IsPart e before.folder now.folder before.out now.out
  pub cause : FailsGiving e before.folder now.folder before.out now.out
  pub said : Said before.err now.err write_text

-- memory ran out, when a line like this was to be said at last
pub record IsOutOfMemory (Lines : List ℕ → Type 0) (before now : Stream) (s : Status) : Type 0 where
  pub status : s ≡ status.Memory
  pub line : List ℕ
  pub lines : Lines line
  pub said : ForBoth before.taken now.taken (TookPart line)

-- the line of an ending that is a refusal, or one of two fixed lines
abbrev pub IsLineOf : Ending → List ℕ → Type 0
IsLineOf e line = (line ≡ write_text) ⊎ (line ≡ memory_text) ⊎ (IsRefusal e.status × (line ≡ e.text))

-- how the answer was given; memory may have run out before, between and after the writes
abbrev pub Gives : Ending → Scene → Scene → Status → Type 0
Gives e before now s =
    IsGiven e before now s ⊎ IsRefused e before now s ⊎ IsBrokenOff e before now s
    ⊎ (IsOutOfMemory (IsLineOf e) before.err now.err s
    × (IsUntouched before now ⊎ (IsWritten e.status × IsPart e before.folder now.folder before.out now.out)))

-- an answer was made and given, or memory ran out before there was one
abbrev pub Runs : List Word → Scene → Scene → Status → Type 0
Runs words before now s =
    ((e : Ending) × IsAnswer (form_of words) before.folder now.folder e × Gives e before now s)
    ⊎ (IsOutOfMemory (λ line. line ≡ memory_text) before.err now.err s × IsUntouched before now)
