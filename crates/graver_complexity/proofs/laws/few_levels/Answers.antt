use Rattle.graver_complexity.proofs.MultipleLaws.{AreSums-many}
use Rattle.graver_complexity.proofs.laws.few_levels.Goals as goal

pub returns : goal.returns
returns c = AreSums-many
