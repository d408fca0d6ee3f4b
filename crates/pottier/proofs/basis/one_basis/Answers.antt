use Rattle.lattice_laws.proofs.SlackBases.{slack_basis_unique}
use Rattle.pottier.proofs.basis.one_basis.Goals as goal

pub returns : goal.returns
returns c = slack_basis_unique
