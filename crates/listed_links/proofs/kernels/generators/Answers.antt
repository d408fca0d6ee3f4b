use Rattle.std.proofs.Common.{arith, ◌≡◌, ◌≤◌, ◌+◌, ◌-◌, ◌++◌, ◌∙◌, sym, ap, length, take, subst, length-take, true}
use Rattle.std.proofs.Common.{false}
use Rattle.std.specs.List.{All}
use Rattle.lattice_theory.specs.Vectors.{is_zero}
use Rattle.lattice_theory.specs.BasisLimits.{IsNarrow}
use Rattle.lattice_laws.proofs.VectorLists.{length-kernel}
use Rattle.listed_links.proofs.RowLaws.{AreRead, read-taken, read-left, read-rows, stands-length, kernel-narrow}
use Rattle.listed_links.proofs.kernels.generators.Goals as goal
use Rattle.listed_links.proofs.kernels.generators.Goals.{then-is_zero+in_ok-extend_from_slice, else-is_zero}

pub loop-row-preserved : goal.loop-row-preserved
loop-row-preserved c =
    let place : c.loop-row.row + 1 - 1 ≡ c.loop-row.row = omega arith in
    let there = rw place at c.row.ensures.entries in
    let cols = c.args.cols in
    let basis = c.args.basis.now.rows in
    let z = c.row.result.now in
    let i = c.loop-row.row in
    let image = ap is_zero (sym c.split_at.ensures.back) ∙ sym c.is_zero.ensures in
    let wide : length (take cols z) ≡ cols = simp length-take (omega (arith, c.row.ensures.width, c.requires.wide)) in
    elim c.if-is_zero.branch [
      | then-is_zero+in_ok-extend_from_slice w ↦
          subst (λ n. AreRead cols basis (i + 1) n c.if-is_zero.entries.items) (sym w.count-is)
          (subst (λ v. AreRead cols basis (i + 1) (c.loop-row.count + 1) v.items) (sym w.entries-is)
          (read-taken cols i c.loop-row.count basis c.loop-row.entries.items w.extend_from_slice.new.self.items z
          c.loop-row.invariant there (image ∙ w.if-is_zero.true) wide
          (w.in_ok-extend_from_slice.ensures.items ∙ ap (λ v. c.loop-row.entries.items ++ v) c.split_at.ensures.front)))
      | else-is_zero w ↦
          subst (λ n. AreRead cols basis (i + 1) n c.if-is_zero.entries.items) (sym w.count-is)
          (subst (λ v. AreRead cols basis (i + 1) c.loop-row.count v.items) (sym w.entries-is)
          (read-left cols i c.loop-row.count basis c.loop-row.entries.items z c.loop-row.invariant there
          (image ∙ w.if-is_zero.false)))
    ]

pub new-requires : goal.new-requires
new-requires c =
    stands-length c.args.cols _ c.loop-row.count c.loop-row.entries.items c.loop-row.invariant.stands

pub returns-clause-rows : goal.returns-clause-rows
returns-clause-rows c =
    let past : length c.args.basis.now.rows ≤ c.loop-row.row =
    omega (arith, c.rows-row-end.ensures, c.loop-row-test.false) in
    ap (λ m. m.rows) c.new.ensures
    ∙ read-rows c.args.cols c.loop-row.row c.loop-row.count c.args.basis.now.rows c.loop-row.entries.items
    c.loop-row.invariant past

pub returns-clause-narrow : goal.returns-clause-narrow
returns-clause-narrow c =
    let past : length c.args.basis.now.rows ≤ c.loop-row.row =
    omega (arith, c.rows-row-end.ensures, c.loop-row-test.false) in
    let rows = ap (λ m. m.rows) c.new.ensures
    ∙ read-rows c.args.cols c.loop-row.row c.loop-row.count c.args.basis.now.rows c.loop-row.entries.items
    c.loop-row.invariant past in
    subst (All IsNarrow) (sym rows) (kernel-narrow c.args.cols c.args.basis.now.rows c.requires.narrow)

pub returns-clause-few : goal.returns-clause-few
returns-clause-few c =
    let past : length c.args.basis.now.rows ≤ c.loop-row.row =
    omega (arith, c.rows-row-end.ensures, c.loop-row-test.false) in
    let rows = ap (λ m. m.rows) c.new.ensures
    ∙ read-rows c.args.cols c.loop-row.row c.loop-row.count c.args.basis.now.rows c.loop-row.entries.items
    c.loop-row.invariant past in
    omega (arith, ap length rows, length-kernel c.args.cols c.args.basis.now.rows, c.requires.few)
