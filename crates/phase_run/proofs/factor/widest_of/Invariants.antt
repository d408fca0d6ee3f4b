use Rattle.std.proofs.Common.{◌≡◌, ◌≤◌, ◌^◌, max, map, drop, unsigned_abs}
use Rattle.lattice_theory.specs.Lists.{greatest}
use Rattle.lattice_theory.specs.Matrices.{product}
use Rattle.phase_run.proofs.FactorLaws.{GreatestUpTo}
use Rattle.phase_run.proofs.factor.widest_of.Given as goal

abbrev pub invariant-loop-entry : goal.invariant-loop-entry
invariant-loop-entry l = record {
  so_far : GreatestUpTo unsigned_abs l.sum l.entry-index l.widest;
  small : l.widest ≤ 2 ^ 63;
}

abbrev pub invariant-loop-row : goal.invariant-loop-row
invariant-loop-row l = record {
  so_far : max l.widest (greatest (map unsigned_abs (drop l.row (product l.program.link l.sum))))
      ≡ max (greatest (map unsigned_abs l.sum)) (greatest (map unsigned_abs (product l.program.link l.sum)));
  small : l.widest ≤ 2 ^ 63;
}
