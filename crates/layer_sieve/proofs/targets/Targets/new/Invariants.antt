use Rattle.lattice_theory.specs.SignedSums.{vectors}
use Rattle.layer_sieve.proofs.TargetLaws.{RowsUpTo}
use Rattle.layer_sieve.proofs.targets.Targets.new.Given as goal

abbrev pub invariant-loop-h : goal.invariant-loop-h
invariant-loop-h l = RowsUpTo (vectors l.sums) l.rows.items l.h
