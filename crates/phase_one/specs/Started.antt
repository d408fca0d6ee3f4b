-- How the runs of all bricks end.
use Rattle.std.specs.Prelude.{List, map, Vec}
use Rattle.std.specs.declared.alloc.Global.{Global}
use Rattle.lattice_theory.specs.Vectors.{Vector}
use Rattle.fold_theory.specs.declared.Phase.TheVariants.{Counted}
use Rattle.fold_theory.specs.Programs.{Program, IsWithin}
use Rattle.run_theory.specs.BrickRuns.{BrickMove}
use Rattle.run_theory.specs.Outcomes.{AllSettle, FirstStuck}
use Rattle.run_theory.specs.Starts.{IsStart}
use Rattle.fold_program.specs.Points.{HasPointShape}
use Rattle.fold_program.specs.Places.{OfBrick}
use Rattle.phase_one.specs.declared.ends.Start.{Start}
use Rattle.phase_one.specs.declared.ends.Start.TheVariants.{Ready, Stuck}

-- the steps of each run
abbrev pub lists : List (Vec BrickMove Global) → List (List BrickMove)
lists traces = map (λ t. t.items) traces

-- every brick settles, and their joint end is a start of phase Counted; or this brick is the first that is stuck, at a
-- point
-- within its bounds
abbrev pub IsStarted : Program → List Vector → Start → Type 0
IsStarted p basis (Ready x traces) =
    AllSettle p basis p.bricks (lists traces.items) x × IsStart p Counted x × HasPointShape p x
IsStarted p basis (Stuck number v traces residual) =
    FirstStuck p basis number residual v.items (lists traces.items) × OfBrick p number (λ b. IsWithin b v.items)
