use Rattle.std.proofs.Common.{◌≡◌, length}
use Rattle.lattice_theory.specs.SignedSums.{vectors}
use Rattle.brick_sums.specs.Places.{width}
use Rattle.layer_sieve.proofs.TargetLaws.{HoldsUpTo}
use Rattle.layer_sieve.proofs.targets.one_width.Given as goal

abbrev pub invariant-loop-i : goal.invariant-loop-i
invariant-loop-i l = HoldsUpTo (λ v. length v ≡ width l.sums) (vectors l.sums) l.i
