use Rattle.cover_laws.proofs.CompleteLists.{complete_covers, complete_elements}
use Rattle.cover_laws.proofs.lattices.a_complete_list_covers_its_lattice.Goals as goal

pub returns-clause-covers : goal.returns-clause-covers
returns-clause-covers c = complete_covers

pub returns-clause-members : goal.returns-clause-members
returns-clause-members c = complete_elements
