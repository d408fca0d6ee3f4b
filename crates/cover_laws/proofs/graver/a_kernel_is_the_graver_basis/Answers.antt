use Rattle.cover_laws.proofs.GraverBases.{kernel_sound, kernel_complete}
use Rattle.cover_laws.proofs.graver.a_kernel_is_the_graver_basis.Goals as goal

pub returns-clause-sound : goal.returns-clause-sound
returns-clause-sound c = kernel_sound

pub returns-clause-complete : goal.returns-clause-complete
returns-clause-complete c = kernel_complete
