-- Calls one after the other, by what contracts see of the folder.
use Rattle.std.proofs.Common.{ℕ, ◌≤◌, List, Option, inl, inr, ◌∙◌, arith}
use Rattle.fold_shelf.specs.Outside.{File, Folder, Rose, OnlyReads, OnlyWrites, IsMissing}

-- one that reads and then another
pub reads_then : (before mid now : Folder) → OnlyReads before mid → OnlyReads mid now → OnlyReads before now
reads_then before mid now first second = record {
  files = second.files ∙ first.files;
  later = omega arith;
  writes = second.writes ∙ first.writes;
}

-- one that writes and then another
pub writes_then : (before mid now : Folder) → OnlyWrites before mid → OnlyWrites mid now → OnlyWrites before now
writes_then before mid now first second = record { reads = second.reads ∙ first.reads; later = omega arith }

-- a count that has risen since later has risen
pub rose_since : (before mid now : ℕ) → before ≤ mid → Rose mid now → Rose before now
rose_since before mid now later rose = omega arith

-- a name is missing for a failure, or for what follows from it
pub missing_as : (files : Option (List File)) (name : List ℕ) (Fails Failed : Type 0) → (Fails → Failed)
    → IsMissing files name Fails → IsMissing files name Failed
missing_as files name Fails Failed follows (inl lacks) = inl lacks
missing_as files name Fails Failed follows (inr fails) = inr (follows fails)
