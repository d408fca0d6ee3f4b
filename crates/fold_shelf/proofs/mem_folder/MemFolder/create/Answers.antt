use Rattle.std.proofs.Common.{ap, ◌∙◌}
use Rattle.fold_shelf.proofs.Places.{FileHolds-set, FileHolds-push, name_there}
use Rattle.fold_shelf.proofs.mem_folder.MemFolder.create.Goals as goal

pub returns-in-Some-clause-made : goal.returns-in-Some-clause-made
returns-in-Some-clause-made c =
    let place = rw (c.deref.ensures.value, c.as_bytes.ensures.value) at c.in-Some.ensures.there in
    let same = ap (λ file. file.name) c.old.view_is ∙ name_there _ _ _ place _ c.index_mut-old.ensures.value in
    rw (← c.self.view_is) (FileHolds-set _ _ _ place _ _ same c.clear.ensures.items)

pub returns-in_ok-push-in-None-clause-made : goal.returns-in_ok-push-in-None-clause-made
returns-in_ok-push-in-None-clause-made c =
    let absent = rw (c.deref.ensures.value, c.as_bytes.ensures.value) at c.in-None.ensures.absent in
    let same = c.in_ok-name-in-None.ensures.items ∙ c.as_bytes-in-None.ensures.value in
    rw (← c.self.view_is, c.in_ok-push-in-None.ensures.items)
    (FileHolds-push _ _ _ _ absent same c.new-bytes.ensures.items)
