use Rattle.graver_complexity.proofs.SizeLaws.{IsSignedSum-entries}
use Rattle.graver_complexity.proofs.laws.small_sums.Goals as goal

pub returns : goal.returns
returns c = IsSignedSum-entries
