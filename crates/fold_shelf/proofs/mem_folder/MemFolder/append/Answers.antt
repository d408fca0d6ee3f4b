use Rattle.std.proofs.Common.{◌++◌, ap, ◌∙◌}
use Rattle.fold_shelf.proofs.Places.{FileGains-set}
use Rattle.fold_shelf.proofs.mem_folder.MemFolder.append.Goals as goal

pub returns-clause-added : goal.returns-clause-added
returns-clause-added c =
    let place = rw (c.deref.ensures.value, c.as_bytes.ensures.value) at c.in-Some.ensures.there in
    let gains = c.in_ok-extend_from_slice.ensures.items ∙ ap (λ file. file.bytes ++ c.args.piece.now) c.file.view_is in
    let same = ap (λ file. file.name) c.file.view_is in
    rw (← c.self.view_is) (FileGains-set _ _ _ place _ c.index_mut-file.ensures.value _ _ same gains)
