use Rattle.std.proofs.Common.{◌≡◌, drop, length}
use Rattle.lattice_laws.proofs.Conformal as conformal
use Rattle.pottier.proofs.pairs.agree.Given as goal

abbrev pub invariant-loop-x : goal.invariant-loop-x
invariant-loop-x l = conformal.agree (drop (length l.yielded) l.p) (drop (length l.yielded) l.q) ≡ conformal.agree l.p
    l.q
