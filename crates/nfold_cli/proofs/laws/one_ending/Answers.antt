use Rattle.nfold_cli.proofs.EndingLaws.{ending_unique}
use Rattle.nfold_cli.proofs.laws.one_ending.Goals as goal

pub returns : goal.returns
returns c = ending_unique
