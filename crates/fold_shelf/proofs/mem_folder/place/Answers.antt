use Rattle.std.proofs.Common.{◌≡◌, false, sym, ap, ◌∙◌, bytes_eq}
use Rattle.std.proofs.lemmas.List.{take_more}
use Rattle.fold_shelf.proofs.Places.{Lacks-push}
use Rattle.fold_shelf.proofs.mem_folder.place.Goals as goal

pub loop-at-preserved : goal.loop-at-preserved
loop-at-preserved c =
    let more = take_more c.args.files.now c.loop-at.at c.index-files-at.result c.loop-at-test.true in
    let named = c.as_slice.ensures.value ∙ ap (λ f. f.name) c.file.view_is in
    let test : bytes_eq c.index-files-at.result.name c.args.name.now ≡ false =
    rw named at (sym c.eq.ensures ∙ c.if-eq.false) in
    rw (more, ← c.index-files-at.is) (Lacks-push _ c.index-files-at.result _ c.loop-at.invariant test)
