use Rattle.std.proofs.Common.{◌≡◌}
use Rattle.lattice_theory.specs.SignedSums.{vectors}
use Rattle.run_theory.specs.Steps.{Move, IsBest}
use Rattle.run_theory.specs.Outcomes.{step_at}
use Rattle.phase_run.proofs.StepLaws.{SteppedUpTo}
use Rattle.phase_run.proofs.points.stepped.Given as goal

abbrev pub invariant-loop-i : goal.invariant-loop-i
invariant-loop-i l =
    (m : Move) → IsBest l.fold.program l.fold.phase (vectors l.fold.sums) l.point m →
    l.step ≡ step_at l.fold.program l.fold.phase l.point m →
    SteppedUpTo l.fold.program.link.cols m.k l.point m.bricks l.i l.names l.parts l.entries.items
