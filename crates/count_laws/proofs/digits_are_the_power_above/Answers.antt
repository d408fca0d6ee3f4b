use Rattle.std.proofs.Common.{arith}
use Rattle.std.proofs.lemmas.Int.Digits.{length-digits_of-le}
use Rattle.count_laws.proofs.PowersOfTwo.{less_than_power}
use Rattle.count_laws.proofs.digits_are_the_power_above.Goals as goal

pub returns-clause-above : goal.returns-clause-above
returns-clause-above c = less_than_power

pub returns-clause-fewest : goal.returns-clause-fewest
returns-clause-fewest c n k low = length-digits_of-le 2 k n (omega arith) low
