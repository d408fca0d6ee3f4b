use Rattle.std.proofs.Common.{take}
use Rattle.fold_shelf.specs.Outside.{Lacks}
use Rattle.fold_shelf.proofs.mem_folder.place.Given as goal

abbrev pub invariant-loop-at : goal.invariant-loop-at
invariant-loop-at l = Lacks (take l.at l.files) l.name
