use Rattle.std.proofs.Common.{◌∙◌, ap, sym, subst}
use Rattle.lattice_theory.specs.Lattices.{kernel}
use Rattle.brick_sums.specs.Generators.{AreGenerators}
use Rattle.graver_complexity.proofs.KernelLaws.{kernel-AreGenerators}
use Rattle.graver_complexity.proofs.tests.tables.Goals as goal

pub returns-clause-generators : goal.returns-clause-generators
returns-clause-generators c =
    let bricks = c.in_ok-bricks.ensures in
    let rows = c.in_ok-gens.ensures.rows ∙ ap (λ m. kernel m.cols c.in_ok-bricks.bricks.elements) bricks.matrix in
    subst AreGenerators (sym rows) (kernel-AreGenerators c.args.brick.now c.in_ok-bricks.bricks.elements bricks.basis)
