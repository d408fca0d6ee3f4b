use Rattle.std.proofs.Common.{rules, arith, ◌≡◌, ◌<◌, ◌≤◌, ◌+◌, ◌-◌, ◌++◌, ◌∷◌, [], ◌∙◌, sym, ap, map, take, set}
use Rattle.std.proofs.Common.{replicate, length, pos, w64, FitsSigned, append_assoc}
use Rattle.std.proofs.lemmas.Int.{to_z-of_z}
use Rattle.std.proofs.lemmas.List.{take_all, append-nil}
use Rattle.lattice_theory.specs.Vectors.{dot}
use Rattle.lattice_theory.specs.Matrices.{unit_vector}
use Rattle.complete_lists.proofs.ElementLaws.{unit-set, unit-more}
use Rattle.complete_lists.proofs.elements.unit_element.Goals as goal

pub loop-row-init : goal.loop-row-init
loop-row-init c =
    let unit = ap (λ v. set v c.args.col (pos 1)) (c.in_ok-element.ensures.items_if_clones_equal (λ y e. e))
    ∙ ap (λ n. set (replicate n (pos 0)) c.args.col (pos 1)) c.cols.ensures.cols
    ∙ unit-set c.args.matrix.now.cols c.args.col c.requires in
    unit ∙ sym (append-nil (unit_vector c.args.matrix.now.cols c.args.col))

pub loop-row-preserved : goal.loop-row-preserved
loop-row-preserved c =
    let place : c.loop-row.row + 1 - 1 ≡ c.loop-row.row = omega arith in
    let column : c.args.col + 1 - 1 ≡ c.args.col = omega arith in
    let low : c.loop-row.row < length c.args.matrix.now.rows =
    omega (arith, c.rows-row-end.ensures, c.loop-row-test.true) in
    let fits : FitsSigned w64 c.entry.result = search rules in
    let read = rw (place, column) at c.entry.ensures in
    let pushed = simp to_z-of_z at c.in_ok-push.ensures.items in
    let widths = rw c.cols.ensures.cols at c.cols.ensures.each_row in
    let unit = unit_vector c.args.matrix.now.cols c.args.col in
    let more = unit-more c.args.matrix.now.rows c.args.matrix.now.cols c.loop-row.row c.args.col c.entry.result low
    c.requires widths read in
    pushed ∙ ap (λ v. v ++ c.entry.result ∷ []) c.loop-row.invariant
    ∙ append_assoc unit (map (λ r. dot r unit) (take c.loop-row.row c.args.matrix.now.rows)) (c.entry.result ∷ [])
    ∙ ap (λ v. unit ++ v) (sym more)

pub returns : goal.returns
returns c =
    let past : length c.args.matrix.now.rows ≤ c.loop-row.row =
    omega (arith, c.rows-row-end.ensures, c.loop-row-test.false) in
    let unit = unit_vector c.args.matrix.now.cols c.args.col in
    c.loop-row.invariant ∙ ap (λ rows. unit ++ map (λ r. dot r unit) rows)
    (take_all c.loop-row.row c.args.matrix.now.rows past)
