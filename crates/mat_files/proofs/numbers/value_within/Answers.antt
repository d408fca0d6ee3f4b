use Rattle.std.proofs.Common.{arith}
use Rattle.mat_files.proofs.NumberLaws.{too_many_digits}
use Rattle.mat_files.proofs.numbers.value_within.Goals as goal

pub returns-then-value-most : goal.returns-then-value-most
returns-then-value-most c =
    too_many_digits c.args.digits.now c.loop-digit.digit-index c.loop-digit.value c.min-most.result c.args.largest
    (omega arith) c.loop-digit.invariant (omega arith) (omega arith) (omega arith)
