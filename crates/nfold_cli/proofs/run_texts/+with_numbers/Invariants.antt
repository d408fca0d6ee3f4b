use Rattle.std.proofs.Common.{length}
use Rattle.nfold_cli.proofs.run_texts.+with_numbers.Given as goal

abbrev pub decreases-with_numbers : goal.decreases-with_numbers
decreases-with_numbers l = length l.numbers.now
