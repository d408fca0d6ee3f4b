-- What a fault of reading is caused by.
use Rattle.std.specs.Prelude.{◌≡◌, ℕ, ◌++◌, List, Result, Err}
use Rattle.fold_shelf.specs.Outside.{File, Folder, without, ForTold, ReadFailed, IsMissing}
use Rattle.mat_files.specs.declared.MatFault.TheVariants as mat
use Rattle.fold_program.specs.declared.FileKind.{FileKind}
use Rattle.fold_program.specs.declared.ProgramFault.TheVariants as program
use Rattle.fold_program.specs.Files.{suffix_of}
use Rattle.fold_files.specs.declared.fault.ReadFault.{ReadFault}
use Rattle.fold_files.specs.declared.fault.ReadFault.TheVariants as read

-- the fault is one of what a file holds, or of the program; shapes are tested as files are read
abbrev pub IsOfContent : ReadFault → Type 0
IsOfContent (read.Shelf kind) = ⊥
IsOfContent (read.Form kind mat.Memory) = ⊥
IsOfContent (read.Program (program.Shape kind)) = ⊥
IsOfContent (read.Program program.Memory) = ⊥
IsOfContent read.Memory = ⊥
IsOfContent f = Unit {0}

-- without this file reading stops at it, so every file before it has its form
abbrev pub ReachesFile : {A : Type 0} → (List File → Result A ReadFault) → List ℕ → FileKind → List File → Type 0
ReachesFile found prefix kind files = found (without files (prefix ++ suffix_of kind)) ≡ Err (read.Shelf kind)

-- the fault is the first one; one of the shelf comes where the file is absent or a read failed; want of memory may come
-- at any time
abbrev pub IsReadCause : {A : Type 0} → (List File → Result A ReadFault) → Folder → Folder → List ℕ → ReadFault → Type 0
IsReadCause found before now prefix (read.Shelf kind) =
    IsMissing before.files (prefix ++ suffix_of kind) (ReadFailed before now)
    × ForTold before.files (ReachesFile found prefix kind)
IsReadCause found before now prefix read.Memory = Unit {0}
IsReadCause found before now prefix f = IsOfContent f × ForTold before.files (λ fs. found fs ≡ Err f)

-- a fault of the shelf is one of this file
abbrev pub IsOfFile : FileKind → ReadFault → Type 0
IsOfFile kind (read.Shelf file) = file ≡ kind
IsOfFile kind f = Unit {0}
