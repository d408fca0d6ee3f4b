use Rattle.std.proofs.Common.{ap, sym, subst, arith, All}
use Rattle.lattice_theory.specs.Matrices.{Matrix}
use Rattle.certificate.specs.Readable.{IsSumRow}
use Rattle.augment_run.proofs.CertifyLaws.{few_links, links_wide, links_high, wide, levels, sum_rows_fit, cells_fit_in}
use Rattle.augment_run.proofs.certifying.fold_part.Goals as goal

pub overflow_add-cols : goal.overflow_add-cols
overflow_add-cols c =
    let p = c.args.program.now in
    let plan = c.args.plan.now in
    let x = c.requires.plan.0 in
    let is = c.requires.plan.1 in
    omega (
      arith,
      c.cols.ensures.cols,
      c.rows.ensures,
      few_links p plan x is,
      links_wide p plan x is,
      links_high p plan x is,
      c.r.ensures.to,
      c.r.ensures.rows,
    )

pub sum_rows-requires-clause-widths : goal.sum_rows-requires-clause-widths
sum_rows-requires-clause-widths c =
    wide c.args.program.now c.args.plan.now c.requires.plan.0 c.requires.plan.1 c.args.phase c.args.last.now.sums
    c.requires.ended.1.sums

pub new-requires-clause-sum_rows : goal.new-requires-clause-sum_rows
new-requires-clause-sum_rows c =
    let p = c.args.program.now in
    let plan = c.args.plan.now in
    let e = c.requires.ended.1 in
    let small = levels p plan c.requires.plan.0 c.requires.plan.1 c.args.phase c.args.last.now.sums e.sums
    c.args.last.now.bound e.bound e.low in
    subst (λ (m : Matrix). All IsSumRow m.rows) (sym c.in_ok-sums.ensures)
    (sum_rows_fit p plan c.requires.plan.0 c.requires.plan.1 c.args.phase c.args.last.now.sums e.sums small)

pub new-requires-clause-cells : goal.new-requires-clause-cells
new-requires-clause-cells c = cells_fit_in c.in_ok-potentials.potentials.rows c.in_ok-potentials.ensures.small

pub new-requires-clause-link_cols : goal.new-requires-clause-link_cols
new-requires-clause-link_cols c =
    let p = c.args.program.now in
    let plan = c.args.plan.now in
    let x = c.requires.plan.0 in
    let is = c.requires.plan.1 in
    omega (
      arith,
      ap (λ (m : Matrix). m.cols) c.in_ok-links.ensures.matrix,
      c.cols.ensures.cols,
      c.rows.ensures,
      few_links p plan x is,
      links_wide p plan x is,
      links_high p plan x is,
      c.r.ensures.to,
      c.r.ensures.rows,
    )
