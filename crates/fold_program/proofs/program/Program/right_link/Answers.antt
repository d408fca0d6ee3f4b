use Rattle.std.proofs.Common.{arith, rules, FitsSigned, w64, ◌≡◌, ◌∙◌, sym, ap, Some, ◌-◌, slice_get, length, get_or}
use Rattle.std.proofs.Common.{[]}
use Rattle.std.proofs.lemmas.Int.{to_z-of_z}
use Rattle.std.proofs.lemmas.Option.{slice_get-get_or}
use Rattle.fold_theory.specs.Programs.{Program}
use Rattle.fold_program.proofs.ViewLaws.{entry_of, slice_get-take, one_row}
use Rattle.fold_program.proofs.program.Program.right_link.Goals as goal

pub returns : goal.returns
returns c =
    let rows = c.self.inside.right.rows in
    let there : slice_get rows 0 ≡ Some (get_or rows 0 []) =
    slice_get-get_or rows 0 [] (omega (arith, c.self.invariant.right_rows)) in
    let all = one_row rows (get_or rows 0 []) c.self.invariant.right_rows there in
    let links = ap (λ (v : Program). length v.link.rows) c.self.view_is in
    let fits : FitsSigned w64 c.entry.result = search rules in
    simp to_z-of_z (
    sym (ap (λ (v : Program). slice_get v.link_right (c.args.row - 1)) c.self.view_is)
    ∙ slice_get-take _ _ (c.args.row - 1) (omega (arith, links, c.requires.from, c.requires.to))
    ∙ ap (λ v. slice_get v (c.args.row - 1)) all
    ∙ entry_of _ _ _ _ there c.entry.ensures)
