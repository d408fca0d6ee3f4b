use Rattle.std.proofs.Common.{◌≡◌, ◌^◌}
use Rattle.lattice_theory.specs.SignedSums.{vectors}
use Rattle.fold_theory.specs.Programs.{link_rests}
use Rattle.layer_sieve.specs.Reaching.{AreAtMost}
use Rattle.brick_dp.specs.Ends.{ending}
use Rattle.brick_dp.proofs.LayerLaws.{NodesUpTo}
use Rattle.brick_dp.proofs.ends.last_layer.Given as goal

abbrev pub invariant-loop-i : goal.invariant-loop-i
invariant-loop-i l = record {
  nodes : NodesUpTo (λ w cell. cell ≡ ending l.fold l.k (link_rests l.fold.program l.point) w) (vectors l.fold.sums)
      l.layer.items l.i;
  small : AreAtMost (2 ^ 118) l.layer.items;
}
