use Rattle.std.proofs.Common.{◌≡◌, ℕ, List, ◌++◌, length}
use Rattle.fold_shelf.specs.Outside.{File, ForBoth, OnlyWrites, FileHolds}
use Rattle.fold_shelf.proofs.storing.store.Given as goal

-- the named file holds all of the text but this rest
abbrev pub HoldsUpTo : List ℕ → List ℕ → List ℕ → List File → List File → Type 0
HoldsUpTo name text rest before now = (part : List ℕ) × (text ≡ part ++ rest) × FileHolds name part before now

abbrev pub invariant-loop-rest : goal.invariant-loop-rest
invariant-loop-rest g l = record {
  held : ForBoth (g.S.Shelf.seen l.fn.shelf).files (g.S.Shelf.seen l.shelf).files (HoldsUpTo l.name l.bytes l.rest);
  writes : OnlyWrites (g.S.Shelf.seen l.fn.shelf) (g.S.Shelf.seen l.shelf);
}

abbrev pub decreases-loop-rest : goal.decreases-loop-rest
decreases-loop-rest g l = length l.rest
