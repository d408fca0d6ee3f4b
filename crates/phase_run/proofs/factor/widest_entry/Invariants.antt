use Rattle.std.proofs.Common.{◌≤◌, ◌++◌, ◌^◌, map, unsigned_abs}
use Rattle.lattice_theory.specs.Lists.{greatest}
use Rattle.lattice_theory.specs.Matrices.{product}
use Rattle.lattice_theory.specs.SignedSums.{vectors}
use Rattle.phase_run.proofs.FactorLaws.{GreatestUpTo}
use Rattle.phase_run.proofs.factor.widest_entry.Given as goal

abbrev pub invariant-loop-i : goal.invariant-loop-i
invariant-loop-i l = record {
  so_far : GreatestUpTo (λ w. greatest (map unsigned_abs (w ++ product l.fold.program.link w)))
      (vectors l.fold.sums) l.i l.widest;
  small : l.widest ≤ 2 ^ 63;
}
