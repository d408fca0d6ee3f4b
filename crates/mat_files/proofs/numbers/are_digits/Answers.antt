use Rattle.std.proofs.Common.{rules}
use Rattle.mat_files.proofs.NumberLaws.{is_digits_where_each}
use Rattle.mat_files.proofs.numbers.are_digits.Goals as goal

pub returns-then-not-is_empty : goal.returns-then-not-is_empty
returns-then-not-is_empty c = is_digits_where_each c.args.text.now c.each_is_digit.result (search rules)
    c.each_is_digit.ensures
