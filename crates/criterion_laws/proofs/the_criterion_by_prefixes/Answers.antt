use Rattle.criterion_laws.proofs.Prefixes.{prefixes_decide}
use Rattle.criterion_laws.proofs.the_criterion_by_prefixes.Goals as goal

pub returns : goal.returns
returns c = prefixes_decide
