use Rattle.std.proofs.Common.{◌∙◌, sym, ap}
use Rattle.lattice_theory.specs.SignedSums.{vectors}
use Rattle.brick_dp.proofs.ChangeLaws.{sized_at}
use Rattle.brick_dp.proofs.folds.Fold.sum.Goals as goal

pub returns-clause-width : goal.returns-clause-width
returns-clause-width c =
    sized_at (vectors c.self.inside.sums.now) c.self.inside.program.now.brick.cols c.args.i c.get.result.now
    c.self.invariant.widths c.get.ensures.vector
    ∙ sym c.t.ensures.brick_cols ∙ c.t.ensures.cols ∙ ap (λ f. f.program.link.cols) c.self.view_is
