use Rattle.std.proofs.Common.{◌≡◌, take}
use Rattle.mat_files.specs.Tokens.{digits_value}
use Rattle.mat_files.proofs.numbers.value_within.Given as goal

abbrev pub invariant-loop-digit : goal.invariant-loop-digit
invariant-loop-digit l = l.value ≡ digits_value (take l.digit-index l.digits)
