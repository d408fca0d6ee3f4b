use Rattle.std.proofs.Common.{arith}
use Rattle.graver_complexity.proofs.NormLaws.{norm1-first_part}
use Rattle.graver_complexity.proofs.norms.first_norm.Goals as goal

pub overflow_cast-result : goal.overflow_cast-result
overflow_cast-result c =
    omega (arith, norm1-first_part c.args.cols c.args.z.now c.requires.few c.requires.narrow, c.norm1.ensures)

pub returns-clause-small : goal.returns-clause-small
returns-clause-small c =
    omega (arith, norm1-first_part c.args.cols c.args.z.now c.requires.few c.requires.narrow, c.norm1.ensures)
