use Rattle.cover_laws.proofs.SlackBases.{slack_basis_complete}
use Rattle.certificate_laws.proofs.a_slack_basis_is_complete.Goals as goal

pub returns : goal.returns
returns c = slack_basis_complete
