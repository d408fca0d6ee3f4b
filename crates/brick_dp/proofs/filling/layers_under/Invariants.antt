use Rattle.std.proofs.Common.{◌≡◌, ◌≤◌, ◌+◌, ◌-◌, ◌*◌, length}
use Rattle.lattice_theory.specs.SignedSums.{vectors}
use Rattle.run_theory.specs.Keys.{IsNoWorse}
use Rattle.brick_dp.specs.Needs.{NoneLives, IsSwept}
use Rattle.brick_dp.proofs.TriedLaws.{TriedBehind}
use Rattle.brick_dp.proofs.UnderLaws.{AreTopsUnder}
use Rattle.brick_dp.proofs.filling.layers_under.Given as goal

abbrev pub invariant-loop-done : goal.invariant-loop-done
invariant-loop-done g l = record {
  inside : l.done ≤ length l.fold.program.bricks;
  swept : IsSwept l.fold l.point l.k l.done (g.B.Bound.last l.bound) l.layers l.layer.items l.floor;
  tops : AreTopsUnder l.fold l.point l.k (length l.fold.program.bricks - l.done) (g.B.Bound.last l.bound)
      l.layer.items l.tops.items;
  kept : g.B.Bound.later l.initial.bound l.bound;
  better : IsNoWorse (g.B.Bound.last l.initial.bound) (g.B.Bound.last l.bound);
  tried : TriedBehind l.fold.program l.fold.phase (vectors l.fold.sums) l.point l.k (g.B.Bound.last l.initial.bound)
      (length l.fold.program.bricks - l.done) (l.moves - l.initial.moves);
  untried : NoneLives l.fold l.point l.k (g.B.Bound.last l.initial.bound) → (l.done ≡ 0) × (l.moves ≡ l.initial.moves);
  rising : l.initial.moves ≤ l.moves;
  counted : l.moves ≤ l.initial.moves + l.done * (length l.fold.sums * length l.fold.sums);
}

abbrev pub decreases-loop-done : goal.decreases-loop-done
decreases-loop-done g l = length l.fold.program.bricks - l.done
