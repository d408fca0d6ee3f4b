use Rattle.std.proofs.Common.{Some, sym, ap, ◌∙◌}
use Rattle.fold_shelf.proofs.Places.{file_named-there}
use Rattle.fold_shelf.proofs.mem_folder.find.Goals as goal

pub returns-clause-there : goal.returns-clause-there
returns-clause-there c =
    file_named-there _ _ _ c.in_ok-at.ensures.there c.index-files-at.result
    ∙ ap (λ file. Some file.bytes) (sym c.index-files-at.is)
