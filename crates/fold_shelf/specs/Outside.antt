-- What the calls of the outside do, and what a fault of theirs is caused by.
use Rattle.std.specs.Prelude.{◌≡◌, ◌≢◌, ℕ, ◌+◌, ◌-◌, ◌^◌, ◌≤◌, ◌<◌, ◌⊎◌, ◌&&◌, min, Bool, true, List, [], ◌∷◌, ◌++◌}
use Rattle.std.specs.Prelude.{length, take, drop, Option, Some, None, is_none, cond, filter, not, bytes_eq}
use Rattle.fold_shelf.specs.declared.shelf.ShelfFault.{ShelfFault}
use Rattle.fold_shelf.specs.declared.shelf.ShelfFault.TheVariants as shelf
use Rattle.fold_shelf.specs.declared.sink.SinkFault.{SinkFault}
use Rattle.fold_shelf.specs.declared.sink.SinkFault.TheVariants as sink
use Rattle.fold_shelf.specs.declared.loading.LoadFault.{LoadFault}
use Rattle.fold_shelf.specs.declared.loading.LoadFault.TheVariants as loading

-- a file of a folder
pub record File : Type 0 where
  pub name : List ℕ
  pub bytes : List ℕ

-- the bytes of the first file of this name
abbrev pub file_named : List File → List ℕ → Option (List ℕ)
file_named [] name = None
file_named (f ∷ files) name = cond (bytes_eq f.name name) (Some f.bytes) (file_named files name)

-- what contracts see of a folder: its files, where they are told, and how often a read and a write has failed
pub record Folder : Type 0 where
  pub files : Option (List File)
  pub read_faults : ℕ
  pub write_faults : ℕ

-- what contracts see of what takes bytes: those taken so far, where they are told, and how often a write has failed
pub record Stream : Type 0 where
  pub taken : Option (List ℕ)
  pub faults : ℕ

-- no file has this name
abbrev pub Lacks : List File → List ℕ → Type 0
Lacks files name = file_named files name ≡ None

-- no two files have the same name
abbrev pub names_differ : List File → Bool
names_differ [] = true
names_differ (f ∷ files) = is_none (file_named files f.name) && names_differ files

-- the files but those of this name
abbrev pub without : List File → List ℕ → List File
without files name = filter (λ f. not (bytes_eq f.name name)) files

-- a count of faults has risen in this call, or stands at its last value
abbrev pub Rose : ℕ → ℕ → Type 0
Rose before now = min (before + 1) (2 ^ 64 - 1) ≤ now

-- a read of the folder has failed in this call
abbrev pub ReadFailed : Folder → Folder → Type 0
ReadFailed before now = Rose before.read_faults now.read_faults

-- a write to the folder has failed in this call
abbrev pub WriteFailed : Folder → Folder → Type 0
WriteFailed before now = Rose before.write_faults now.write_faults

-- a write to the stream has failed in this call
abbrev pub SinkFailed : Stream → Stream → Type 0
SinkFailed before now = Rose before.faults now.faults

-- a call that reads changes no file and no count but that of reads, which does not fall
pub record OnlyReads (before now : Folder) : Type 0 where
  pub files : now.files ≡ before.files
  pub later : before.read_faults ≤ now.read_faults
  pub writes : now.write_faults ≡ before.write_faults

-- a call that writes changes no count but that of writes, which does not fall
pub record OnlyWrites (before now : Folder) : Type 0 where
  pub reads : now.read_faults ≡ before.read_faults
  pub later : before.write_faults ≤ now.write_faults

-- a fact of what is told
abbrev pub ForTold : {A : Type 0} → Option A → (A → Type 0) → Type 0
ForTold None P = Unit {0}
ForTold (Some a) P = P a

-- it is told, and this holds of it
abbrev pub IsTold : {A : Type 0} → Option A → (A → Type 0) → Type 0
IsTold None P = ⊥
IsTold (Some a) P = P a

-- a fact of what is told before and after; what is told stays told
abbrev pub ForBoth : {A : Type 0} → Option A → Option A → (A → A → Type 0) → Type 0
ForBoth None None P = Unit {0}
ForBoth (Some a) (Some b) P = P a b
ForBoth a b P = ⊥

-- the named file has these bytes now, and every other file is as before
pub record FileHolds (name bytes : List ℕ) (before now : List File) : Type 0 where
  pub named : file_named now name ≡ Some bytes
  pub others : (other : List ℕ) → other ≢ name → file_named now other ≡ file_named before other

-- the named file has gained these bytes at its end, and every other file is as before
abbrev pub FileGains : List ℕ → List ℕ → List File → List File → Type 0
FileGains name piece before now = (bytes : List ℕ) × (file_named before name ≡ Some bytes)
    × FileHolds name (bytes ++ piece) before now

-- nothing happened, or the named file holds a first part of the bytes
abbrev pub StoredPart : List ℕ → List ℕ → List File → List File → Type 0
StoredPart name bytes before now =
    (now ≡ before) ⊎ ((part : List ℕ) × (rest : List ℕ) × (bytes ≡ part ++ rest) × FileHolds name part before now)

-- n bytes of the named file, from this place on, are at the front of the buffer; none only at the end, or for no room
pub record ReadFrom (files : List File) (name : List ℕ) (at : ℕ) (buffer : List ℕ) (n : ℕ) : Type 0 where
  pub bytes : List ℕ
  pub there : file_named files name ≡ Some bytes
  pub inside : n ≤ length (drop at bytes)
  pub front : take n buffer ≡ take n (drop at bytes)
  pub some : n ≡ 0 → (length buffer ≡ 0) ⊎ (length bytes ≤ at)

-- the told files lack the name, or the shelf has failed so
abbrev pub IsMissing : Option (List File) → List ℕ → Type 0 → Type 0
IsMissing files name Fails = IsTold files (λ fs. Lacks fs name) ⊎ Fails

-- why a shelf's call is refused, which fails so; want of memory may come at any time
abbrev pub IsShelfCause : Option (List File) → List ℕ → Type 0 → ShelfFault → Type 0
IsShelfCause files name Fails shelf.Missing = IsMissing files name Fails
IsShelfCause files name Fails shelf.Failed = Fails
IsShelfCause files name Fails shelf.Memory = Unit {0}

-- why a file is not created or stored, which never finds a name missing; want of memory may come at any time
abbrev pub IsCreateCause : Folder → Folder → ShelfFault → Type 0
IsCreateCause before now shelf.Missing = ⊥
IsCreateCause before now shelf.Failed = WriteFailed before now
IsCreateCause before now shelf.Memory = Unit {0}

-- why a sink's call is refused; want of memory may come at any time
abbrev pub IsSinkCause : Stream → Stream → SinkFault → Type 0
IsSinkCause before now sink.Failed = SinkFailed before now
IsSinkCause before now sink.Memory = Unit {0}

-- n bytes of the piece were taken: at most all, and at least one where there is one
pub record TakesSome (piece : List ℕ) (n : ℕ) : Type 0 where
  pub most : n ≤ length piece
  pub some : 0 < length piece → 0 < n

-- these bytes were taken after those before
abbrev pub Took : List ℕ → List ℕ → List ℕ → Type 0
Took text before now = now ≡ before ++ text

-- a first part of these bytes was taken
abbrev pub TookPart : List ℕ → List ℕ → List ℕ → Type 0
TookPart text before now = (part : List ℕ) × (rest : List ℕ) × (text ≡ part ++ rest) × Took part before now

-- the whole file, which is not too long
pub record IsWhole (name : List ℕ) (most : ℕ) (bytes : List ℕ) (files : List File) : Type 0 where
  pub there : file_named files name ≡ Some bytes
  pub short : length bytes ≤ most

-- the named file is there, and longer than this
abbrev pub IsTooLong : List ℕ → ℕ → List File → Type 0
IsTooLong name most files = (bytes : List ℕ) × (file_named files name ≡ Some bytes) × (most < length bytes)

-- what a shelf's fault is to a caller who loads a file
abbrev pub load_fault : ShelfFault → LoadFault
load_fault shelf.Missing = loading.Missing
load_fault shelf.Failed = loading.Failed
load_fault shelf.Memory = loading.Memory

-- why a file is not loaded; want of memory may come at any time
abbrev pub IsLoadCause : Folder → Folder → List ℕ → ℕ → LoadFault → Type 0
IsLoadCause before now name most loading.Missing = IsMissing before.files name (ReadFailed before now)
IsLoadCause before now name most loading.Failed = ReadFailed before now
IsLoadCause before now name most loading.TooLong = ForTold before.files (IsTooLong name most)
IsLoadCause before now name most loading.Memory = Unit {0}
