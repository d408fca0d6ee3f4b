use Rattle.std.proofs.Common.{◌≡◌, ◌≤◌, ◌+◌, ◌*◌, ◌^◌, ◌-◌, pos, length, slice_get, Some}
use Rattle.lattice_theory.specs.SignedSums.{vectors}
use Rattle.sieve_laws.specs.Sieve.{AreTops, live}
use Rattle.brick_dp.specs.Tables.{AreLeastLayers}
use Rattle.brick_dp.proofs.filling.layers.Given as goal

abbrev pub invariant-loop-done : goal.invariant-loop-done
invariant-loop-done l = record {
  layers : AreLeastLayers l.fold l.point l.k (l.done + 1) l.layers;
  last : slice_get l.layers l.done ≡ Some l.layer.items;
  tops : AreTops (vectors l.fold.sums) (live (pos (2 ^ 127 - 1)) l.layer.items) l.layer.items l.tops.items;
  rising : l.initial.moves ≤ l.moves;
  counted : l.moves ≤ l.initial.moves + l.done * (length l.fold.sums * length l.fold.sums);
}
