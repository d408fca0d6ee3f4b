use Rattle.std.proofs.Common.{◌≡◌, ◌+◌, ◌∙◌, sym, length, arith, All, ℕ}
use Rattle.std.proofs.lemmas.List.Elements.{All-weaker}
use Rattle.lattice_theory.specs.Vectors.{Vector}
use Rattle.lattice_theory.specs.BasisLimits.{IsNarrow}
use Rattle.pottier.proofs.BasisLaws.{entries_fit, rows_again}
use Rattle.augment_run.proofs.RowLists.{flat_more, flat_all}
use Rattle.augment_run.proofs.certifying.basis_rows.Goals as goal

pub loop-i-init : goal.loop-i-init
loop-i-init c = c.new-entries.ensures.items

pub loop-i-preserved : goal.loop-i-preserved
loop-i-preserved c =
    c.in_ok-extend_from_slice.ensures.items
    ∙ flat_more c.args.basis.now.elements c.loop-i.i c.element.result.now c.loop-i.entries.items
    c.element.ensures.element c.loop-i.invariant

wide : (c : goal.After-loop-i) → All (λ (z : Vector). length z ≡ c.args.cols) c.args.basis.now.elements
wide c =
    let width : ℕ = c.args.basis.now.matrix.cols + length c.args.basis.now.matrix.rows in
    All-weaker (λ (z : Vector). (length z ≡ width) × IsNarrow z) (λ (z : Vector). length z ≡ c.args.cols) (λ z is. is.0
    ∙ sym c.requires)
    c.args.basis.now.elements c.len-rows.ensures.each

pub new-requires : goal.new-requires
new-requires c =
    let elements = c.args.basis.now.elements in
    let all = flat_all elements c.loop-i.i c.loop-i.entries.items
    (omega (arith, c.loop-i-test.false, c.len-rows.ensures.len)) c.loop-i.invariant in
    entries_fit c.len-rows.result c.args.cols elements c.loop-i.entries.items c.len-rows.ensures.len all (wide c)

pub returns-clause-matrix : goal.returns-clause-matrix
returns-clause-matrix c =
    let elements = c.args.basis.now.elements in
    let all = flat_all elements c.loop-i.i c.loop-i.entries.items
    (omega (arith, c.loop-i-test.false, c.len-rows.ensures.len)) c.loop-i.invariant in
    c.new.ensures ∙ (λ i. record {
      cols = c.args.cols;
      rows =
          rows_again c.len-rows.result c.args.cols elements c.loop-i.entries.items c.len-rows.ensures.len all
          (wide c.before) i;
    })
