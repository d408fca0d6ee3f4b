use Rattle.std.proofs.Common.{◌≡◌, take, true}
use Rattle.lattice_laws.proofs.Conformal.{agree}
use Rattle.complete_lists.proofs.clashes.first_clash.Given as goal

abbrev pub invariant-loop-at : goal.invariant-loop-at
invariant-loop-at l = agree (take l.at l.f) (take l.at l.g) ≡ true
