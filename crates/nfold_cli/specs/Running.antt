-- What the top call answers, what it stores and writes, and what it says.
use Rattle.std.specs.Prelude.{◌≡◌, ◌≢◌, ℕ, ◌⊎◌, List, Option, Some, None}
use Rattle.fold_shelf.specs.Outside.{File, Stream, SinkFailed, file_named, FileHolds, StoredPart, ForBoth, IsTold, Took}
use Rattle.fold_shelf.specs.Outside.{TookPart, Lacks, without}
use Rattle.nfold_cli.specs.declared.status.Status.{Status}
use Rattle.nfold_cli.specs.declared.status.Status.TheVariants as status
use Rattle.nfold_cli.specs.Texts.{write_text, memory_text}
use Rattle.nfold_cli.specs.Words.{Word, FormValue}
use Rattle.nfold_cli.specs.Endings.{Ending, IsWritten, IsRefusal, read_ending}
use Rattle.nfold_cli.specs.Forms.{IsEnding, IsTrueEnd}

-- there is an ending of these words and files of which this holds
abbrev pub SomeEnding : List Word → List File → (Ending → Type 0) → Type 0
SomeEnding words files P = (e : Ending) × IsEnding words files e × P e

-- ---- the status

-- the status is that of the ending; a fault of writing comes only where there was a text to write; want of memory, and
-- a fault of reading, say nothing of the ending
abbrev pub EndsWith : List Word → List File → Status → Type 0
EndsWith words files status.Memory = Unit {0}
EndsWith words files status.ReadFault = Unit {0}
EndsWith words files status.WriteFault = SomeEnding words files (λ e. IsWritten e.status)
EndsWith words files s = SomeEnding words files (λ e. e.status ≡ s)

-- no form, and the answer is that, or want of memory; a form, and the answer is something else
abbrev pub AnswersForm : Option FormValue → Status → Type 0
AnswersForm None s = (s ≡ status.Usage) ⊎ (s ≡ status.Memory)
AnswersForm (Some form) s = s ≢ status.Usage

-- a fault of reading comes where a read failed, or where the told files end in one
abbrev pub FailsReading : List Word → Option (List File) → Type 0 → Type 0
FailsReading words files Failed = Failed ⊎ IsTold files (λ fs. SomeEnding words fs (λ e. e.status ≡ status.ReadFault))

-- a fault of writing comes where the output failed, or where a file was to be stored and the shelf failed
abbrev pub FailsWriting : Option Word → Type 0 → Type 0 → Type 0
FailsWriting stored OutFailed ShelfFailed = OutFailed ⊎ ((stored ≢ None) × ShelfFailed)

-- ---- the files and the output

-- what is to be stored stands in its file, and every other file is as before
abbrev pub Stores : Option File → List File → List File → Type 0
Stores None before now = now ≡ before
Stores (Some f) before now = FileHolds f.name f.bytes before now

-- or a first part of it does, or nothing has happened
abbrev pub StoresPart : Option File → List File → List File → Type 0
StoresPart None before now = now ≡ before
StoresPart (Some f) before now = StoredPart f.name f.bytes before now

-- every file but the named one is as before
abbrev pub ChangesOnly : Option Word → List File → List File → Type 0
ChangesOnly None before now = now ≡ before
ChangesOnly (Some name) before now = (other : List ℕ) → other ≢ name → file_named now other ≡ file_named before other

-- the ending was given whole: its file stands, and the output has taken its text
pub record GivesWhole (e : Ending) (before now : List File) (taken_before taken_now : List ℕ) : Type 0 where
  pub stored : Stores e.stored before now
  pub took : Took e.text taken_before taken_now

-- the ending was given in part: a first part of its file, and no text; or its file, and a first part of its text
abbrev pub GivesPart : Ending → List File → List File → List ℕ → List ℕ → Type 0
GivesPart e before now taken_before taken_now =
    (StoresPart e.stored before now × (taken_now ≡ taken_before))
    ⊎ (Stores e.stored before now × TookPart e.text taken_before taken_now)

-- what told files and a told output are after a run
abbrev pub Leaves : List Word → List File → List File → List ℕ → List ℕ → Status → Type 0
Leaves words before now taken_before taken_now status.Done =
    SomeEnding words before (λ e. (e.status ≡ status.Done) × GivesWhole e before now taken_before taken_now)
Leaves words before now taken_before taken_now status.No =
    SomeEnding words before (λ e. (e.status ≡ status.No) × GivesWhole e before now taken_before taken_now)
Leaves words before now taken_before taken_now status.WriteFault =
    SomeEnding words before (λ e. IsWritten e.status × GivesPart e before now taken_before taken_now)
Leaves words before now taken_before taken_now status.Memory =
    ((now ≡ before) × (taken_now ≡ taken_before)) ⊎ SomeEnding words before
    (λ e. IsWritten e.status × GivesPart e before now taken_before taken_now)
Leaves words before now taken_before taken_now s = (now ≡ before) × (taken_now ≡ taken_before)

-- the ending was given whole, and what it says is true
abbrev pub GivesTruth : Option FormValue → List File → List File → List ℕ → List ℕ → Status → Type 0
GivesTruth form before now taken_before taken_now s =
    (e : Ending) × (e.status ≡ s) × GivesWhole e before now taken_before taken_now × IsTrueEnd form before e

-- ---- the errors

-- the message of a run: the line of an ending that writes nothing on the output, or one of two fixed lines
abbrev pub IsMessage : List ℕ → Type 0
IsMessage line =
    (line ≡ write_text) ⊎ (line ≡ memory_text)
    ⊎ ((words : List Word) × (files : List File) × SomeEnding words files (λ e. IsRefusal e.status × (line ≡ e.text)))

-- errors took the line whole, or failed and took a first part
abbrev pub Said : Stream → Stream → List ℕ → Type 0
Said before now line =
    ForBoth before.taken now.taken (Took line) ⊎ (SinkFailed before now
    × ForBoth before.taken now.taken (TookPart line))

-- the file that is named is absent or a read failed; every file before it is accepted, since without it the run ends
-- there
abbrev pub StopsReading : List Word → List File → Type 0 → (List ℕ → Type 0) → Type 0
StopsReading words files Failed Says =
    (name : List ℕ) × IsEnding words (without files name) (read_ending name)
    × (Lacks files name ⊎ Failed) × (Failed ⊎ IsEnding words files (read_ending name))
    × Says (read_ending name).text

-- what is said on errors, for told files
abbrev pub SaysOf : List Word → List File → Type 0 → Stream → Stream → Status → Type 0
SaysOf words files Failed before now status.Done = now.taken ≡ before.taken
SaysOf words files Failed before now status.No = now.taken ≡ before.taken
SaysOf words files Failed before now status.ReadFault = StopsReading words files Failed (Said before now)
SaysOf words files Failed before now status.WriteFault = Said before now write_text
SaysOf words files Failed before now status.Memory =
    (line : List ℕ) × IsMessage line × ForBoth before.taken now.taken (TookPart line)
SaysOf words files Failed before now s = SomeEnding words files (λ e. (e.status ≡ s) × Said before now e.text)
