use Rattle.std.proofs.Common.{◌+◌, ◌≤◌, ◌∙◌, ap, sym, subst, length, arith}
use Rattle.std.specs.List.{All}
use Rattle.lattice_theory.specs.BasisLimits.{IsNarrow}
use Rattle.pottier.proofs.BasisLaws.{IsRead, read_none, read_taken, read_left, read_fits, read_rows, kernel_narrow}
use Rattle.pottier.proofs.basis.kernel.Goals as goal
use Rattle.pottier.proofs.basis.kernel.Goals.{then-is_zero+in_ok-extend_from_slice, else-is_zero}

pub loop-i-init : goal.loop-i-init
loop-i-init c = read_none c.args.b.now.matrix.cols c.args.b.now.elements c.new-entries.result.items
    c.new-entries.ensures.items

pub loop-i-preserved : goal.loop-i-preserved
loop-i-preserved c =
    let cols = c.args.b.now.matrix.cols in
    let elements = c.args.b.now.elements in
    let i = c.loop-i.i in
    let image = c.image.result.now in
    let so_far = c.loop-i.invariant in
    elim c.if-is_zero.branch [
      | then-is_zero+in_ok-extend_from_slice w ↦
          subst (λ n. IsRead cols elements (i + 1) n c.if-is_zero.entries.items) (sym w.rows-is)
          (subst (λ v. IsRead cols elements (i + 1) (c.loop-i.rows + 1) v.items) (sym w.entries-is)
          (read_taken cols i c.loop-i.rows elements c.loop-i.entries.items w.extend_from_slice.new.self.items image
          w.vector.result.now so_far c.image.ensures.image w.vector.ensures.vector
          (sym c.is_zero.ensures ∙ w.if-is_zero.true) w.in_ok-extend_from_slice.ensures.items))
      | else-is_zero w ↦
          subst (λ n. IsRead cols elements (i + 1) n c.if-is_zero.entries.items) (sym w.rows-is)
          (subst (λ v. IsRead cols elements (i + 1) c.loop-i.rows v.items) (sym w.entries-is)
          (read_left cols i c.loop-i.rows elements c.loop-i.entries.items image so_far c.image.ensures.image
          (sym c.is_zero.ensures ∙ w.if-is_zero.false)))
    ]

pub new-requires : goal.new-requires
new-requires c =
    let all : length c.args.b.now.elements ≤ c.loop-i.i = omega (arith, c.loop-i-test.false, c.len-i-end.ensures.len) in
    read_fits c.args.b.now.matrix c.loop-i.i c.loop-i.rows c.cols.result c.args.b.now.elements c.loop-i.entries.items
    c.loop-i.invariant all
    (c.cols.ensures.cols ∙ ap (λ b. b.matrix.cols) c.b.view_is) c.len-i-end.ensures.each

pub returns-clause-rows : goal.returns-clause-rows
returns-clause-rows c =
    let all : length c.args.b.now.elements ≤ c.loop-i.i = omega (arith, c.loop-i-test.false, c.len-i-end.ensures.len) in
    ap (λ g. g.rows) c.new.ensures
    ∙ read_rows c.args.b.now.matrix c.loop-i.i c.loop-i.rows c.cols.result c.args.b.now.elements c.loop-i.entries.items
    c.loop-i.invariant all
    (c.cols.ensures.cols ∙ ap (λ b. b.matrix.cols) c.b.view_is) c.len-i-end.ensures.each

pub returns-clause-narrow : goal.returns-clause-narrow
returns-clause-narrow c =
    let all : length c.args.b.now.elements ≤ c.loop-i.i = omega (arith, c.loop-i-test.false, c.len-i-end.ensures.len) in
    let rows = ap (λ g. g.rows) c.new.ensures
    ∙ read_rows c.args.b.now.matrix c.loop-i.i c.loop-i.rows c.cols.result c.args.b.now.elements c.loop-i.entries.items
    c.loop-i.invariant all
    (c.cols.ensures.cols ∙ ap (λ b. b.matrix.cols) c.b.view_is) c.len-i-end.ensures.each in
    subst (All IsNarrow) (sym rows) (kernel_narrow c.args.b.now.matrix c.args.b.now.elements c.len-i-end.ensures.each)
