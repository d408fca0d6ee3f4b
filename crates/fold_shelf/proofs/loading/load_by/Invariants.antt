use Rattle.std.proofs.Common.{◌≤◌, ◌-◌, vec_len}
use Rattle.fold_shelf.specs.Outside.{ForTold, OnlyReads}
use Rattle.fold_shelf.proofs.Reading.{IsFront}
use Rattle.fold_shelf.proofs.loading.load_by.Given as goal

abbrev pub invariant-loop-bytes : goal.invariant-loop-bytes
invariant-loop-bytes g l = record {
  front : ForTold (g.S.Shelf.seen l.fn.shelf).files (IsFront l.name l.bytes.items);
  short : vec_len l.bytes ≤ l.most;
  reads : OnlyReads (g.S.Shelf.seen l.fn.shelf) (g.S.Shelf.seen l.shelf);
}

abbrev pub decreases-loop-bytes : goal.decreases-loop-bytes
decreases-loop-bytes g l = l.most - vec_len l.bytes
