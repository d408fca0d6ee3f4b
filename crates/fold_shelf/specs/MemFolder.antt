-- Where a file stands in a list of files.
use Rattle.std.specs.Prelude.{◌≡◌, ℕ, ◌<◌, List, length, take, slice_index_or}
use Rattle.fold_shelf.specs.declared.shelf.ShelfFault.{ShelfFault}
use Rattle.fold_shelf.specs.declared.shelf.ShelfFault.TheVariants as shelf
use Rattle.fold_shelf.specs.Outside.{File, Lacks}

-- the first file of this name stands at this place, from 0
pub record IsPlace (files : List File) (name : List ℕ) (at : ℕ) : Type 0 where
  pub inside : at < length files
  pub named : (d : File) → (slice_index_or files at d).name ≡ name
  pub first : Lacks (take at files) name

-- why nothing is added to a file in memory: its name is missing, or memory is
abbrev pub IsAppendCause : List File → List ℕ → ShelfFault → Type 0
IsAppendCause files name shelf.Missing = Lacks files name
IsAppendCause files name shelf.Failed = ⊥
IsAppendCause files name shelf.Memory = Unit {0}
