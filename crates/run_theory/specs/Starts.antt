-- Where the steps of a phase start.
use Rattle.fold_theory.specs.declared.Phase.{Phase}
use Rattle.fold_theory.specs.Programs.{Program, Bricks, AreWithin, MeetsBrickRows}
use Rattle.run_theory.specs.Steps.{AllowsEnd}

-- x is within the bounds and meets the brick rows, and the phase allows it as the end of a step
pub record IsStart (p : Program) (phase : Phase) (x : Bricks) : Type 0 where
  pub within : AreWithin p.bricks x
  pub brick_rows : MeetsBrickRows p x
  pub end : AllowsEnd p phase x
