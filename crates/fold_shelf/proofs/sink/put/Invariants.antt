use Rattle.std.proofs.Common.{◌≡◌, ℕ, ◌≤◌, List, ◌++◌, length}
use Rattle.fold_shelf.specs.Outside.{ForBoth, Took}
use Rattle.fold_shelf.proofs.sink.put.Given as goal

-- all of the text but this rest was taken
abbrev pub TookUpTo : List ℕ → List ℕ → List ℕ → List ℕ → Type 0
TookUpTo text rest before now = (part : List ℕ) × (text ≡ part ++ rest) × Took part before now

abbrev pub invariant-loop-rest : goal.invariant-loop-rest
invariant-loop-rest g l = record {
  taken : ForBoth (g.K.Sink.seen l.fn.sink).taken (g.K.Sink.seen l.sink).taken (TookUpTo l.bytes l.rest);
  later : (g.K.Sink.seen l.fn.sink).faults ≤ (g.K.Sink.seen l.sink).faults;
}

abbrev pub decreases-loop-rest : goal.decreases-loop-rest
decreases-loop-rest g l = length l.rest
