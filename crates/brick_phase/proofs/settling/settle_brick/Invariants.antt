use Rattle.run_theory.specs.BrickRuns.{nearest_point}
use Rattle.fold_program.specs.Places.{ForBrick}
use Rattle.brick_phase.specs.Offers.{IsPlace}
use Rattle.brick_phase.proofs.SettleLaws.{LeadsOn}
use Rattle.brick_phase.proofs.settling.settle_brick.Given as goal

abbrev pub invariant-loop-trace : goal.invariant-loop-trace
invariant-loop-trace l = record {
  place : ForBrick l.program l.i (λ b. IsPlace l.program b l.at);
  leads : ForBrick l.program l.i (λ b. LeadsOn l.program l.basis.elements b (nearest_point b) l.trace.items
      l.at.point.items);
}

abbrev pub decreases-loop-trace : goal.decreases-loop-trace
decreases-loop-trace l = l.at.residual
