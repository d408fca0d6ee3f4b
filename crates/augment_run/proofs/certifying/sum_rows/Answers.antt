use Rattle.std.proofs.Common.{◌≡◌, ◌+◌, ◌^◌, ◌<◌, ◌≤◌, ◌++◌, ◌∙◌, ℤ, w64, [], ◌∷◌, ap, sym, subst, length, arith}
use Rattle.std.proofs.Common.{flat_map, map, All}
use Rattle.std.proofs.lemmas.Int.{to_z_pos}
use Rattle.std.proofs.lemmas.List.{length-map}
use Rattle.lattice_theory.specs.Vectors.{Vector}
use Rattle.lattice_theory.specs.SignedSums.{vectors}
use Rattle.run_theory.specs.Outcomes.{row_of_sum}
use Rattle.pottier.proofs.BasisLaws.{entries_fit, rows_again}
use Rattle.augment_run.proofs.RowLists.{flat_all}
use Rattle.augment_run.proofs.SumRows.{sum_more, sum_widths, level_low}
use Rattle.augment_run.proofs.certifying.sum_rows.Goals as goal

pub loop-i-init : goal.loop-i-init
loop-i-init c = c.new-entries.ensures.items

pub loop-i-preserved : goal.loop-i-preserved
loop-i-preserved c =
    let v = c.get.result.now in
    let level = c.level.result in
    let entries = c.loop-i.entries.items in
    let small : level < 2 ^ 43 =
    level_low (2 ^ 43) c.args.sums.now c.loop-i.i level c.requires.levels c.level.ensures in
    let low : level < 2 ^ 63 = omega (arith, small) in
    sum_more c.args.sums.now c.loop-i.i level v entries _ c.level.ensures c.get.ensures.vector
    (
    c.in_ok-extend_from_slice.ensures.items
    ∙ ap (λ (es : Vector). es ++ v) c.in_ok-push.ensures.items
    ∙ ap (λ (a : ℤ). (entries ++ a ∷ []) ++ v) (to_z_pos w64 level low)
    ) c.loop-i.invariant

pub overflow_cast-level : goal.overflow_cast-level
overflow_cast-level c =
    omega (arith, level_low (2 ^ 43) c.args.sums.now c.loop-i.i c.level.result c.requires.levels c.level.ensures)

all : (c : goal.After-t) → c.loop-i.entries.items ≡ flat_map (λ r. r) (map row_of_sum c.args.sums.now)
all c =
    let rows = map row_of_sum c.args.sums.now in
    let done : length rows ≤ c.loop-i.i =
    omega (arith, c.loop-i-test.false, c.len-rows.ensures, length-map c.args.sums.now row_of_sum) in
    flat_all rows c.loop-i.i c.loop-i.entries.items done c.loop-i.invariant

count : (c : goal.After-t) → c.len-rows.result ≡ length (map row_of_sum c.args.sums.now)
count c = c.len-rows.ensures ∙ sym (length-map c.args.sums.now row_of_sum)

wide : (c : goal.After-t) → All (λ (row : Vector). length row ≡ 1 + c.t.result) (map row_of_sum c.args.sums.now)
wide c = sum_widths c.t.result c.args.sums.now (
    subst (λ n. All (λ (w : Vector). length w ≡ n) (vectors c.args.sums.now))
    (sym c.t.ensures.brick_cols) c.requires.widths)

pub new-requires : goal.new-requires
new-requires c =
    entries_fit c.len-rows.result (1 + c.t.result) (map row_of_sum c.args.sums.now) c.loop-i.entries.items (count c)
    (all c) (wide c)

pub returns : goal.returns
returns c =
    let cols = c.t.ensures.brick_cols in
    let rows = rows_again c.len-rows.result (1 + c.t.result) (map row_of_sum c.args.sums.now) c.loop-i.entries.items
    (count c.before) (all c.before) (wide c.before) in
    c.new.ensures ∙ (λ i. record { cols = 1 + cols i; rows = rows i })
