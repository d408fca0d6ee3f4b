use Rattle.cover_laws.proofs.CompleteLists.{complete_conformal}
use Rattle.cover_laws.proofs.lattices.a_complete_list_sums_up_its_lattice.Goals as goal

pub returns : goal.returns
returns c = complete_conformal
