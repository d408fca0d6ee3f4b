use Rattle.std.proofs.Common.{◌≡◌, length}
use Rattle.lattice_theory.specs.SignedSums.{vectors}
use Rattle.brick_sums.specs.Places.{width}
use Rattle.layer_sieve.proofs.TargetLaws.{RowUpTo}
use Rattle.layer_sieve.proofs.targets.target_row.Given as goal

abbrev pub invariant-loop-from : goal.invariant-loop-from
invariant-loop-from l = record {
  row : RowUpTo (vectors l.sums) l.h l.row.items l.from;
  space : length l.scratch.items ≡ width l.sums;
}
