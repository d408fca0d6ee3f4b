use Rattle.std.proofs.Common.{arith}
use Rattle.step_lengths.proofs.CountLaws.{length_count}
use Rattle.step_lengths.proofs.count.Goals as goal

pub returns-clause-lengths : goal.returns-clause-lengths
returns-clause-lengths c = length_count c.args.range c.max.result (omega (arith, c.max.ensures))
    (omega (arith, c.requires))
