use Rattle.std.proofs.Common.{◌≡◌, drop, length}
use Rattle.pottier.specs.Partners as partners
use Rattle.pottier.proofs.pairs.agree_turned.Given as goal

abbrev pub invariant-loop-x : goal.invariant-loop-x
invariant-loop-x l = partners.agree_turned (drop (length l.yielded) l.p) (drop (length l.yielded) l.q) ≡
    partners.agree_turned l.p l.q
