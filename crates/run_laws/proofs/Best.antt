-- Where the rule has no step of length 1 from a point, no point that is where the phase starts has a lower phase cost.
use Rattle.std.proofs.Common.{◌≤ℤ◌, List}
use Rattle.fold_theory.specs.declared.Phase.{Phase}
use Rattle.lattice_theory.specs.SignedSums.{Sum, vectors}
use Rattle.fold_theory.specs.Programs.{Program, IsProgram, Bricks, phase_cost}
use Rattle.run_theory.specs.Links.{Bases, AreBases}
use Rattle.run_theory.specs.BrickSums.{AreBrickSums}
use Rattle.run_theory.specs.Steps.{Augments, NoneAugments}
use Rattle.run_theory.specs.Starts.{IsStart}
use Rattle.piece_laws.proofs.Starts.{sized}
use Rattle.piece_laws.proofs.Pieces.{unit_best}
use Rattle.run_laws.proofs.UnitSteps.{no_gain}

-- where no step of length 1 lowers the phase cost, the start is a best one
pub first_length_best : (p : Program) (phase : Phase) (b : Bases) (sums : List Sum) (x y : Bricks) →
    IsProgram p → AreBases p b → AreBrickSums p phase b sums → IsStart p phase x →
    ((h : Bricks) → Augments p phase (vectors sums) x 0 h → ⊥) → IsStart p phase y →
    phase_cost p phase x ≤ℤ phase_cost p phase y
first_length_best p phase b sums x y program bases are start none other =
    unit_best p phase b sums program bases are x start
    (no_gain p phase (vectors sums) x (sized p program x start.within) none) y other

-- where the rule has no step, the start is a best one
pub finished_is_best : (p : Program) (phase : Phase) (b : Bases) (sums : List Sum) (x y : Bricks) →
    IsProgram p → AreBases p b → AreBrickSums p phase b sums → IsStart p phase x →
    NoneAugments p phase (vectors sums) x → IsStart p phase y → phase_cost p phase x ≤ℤ phase_cost p phase y
finished_is_best p phase b sums x y program bases are start none other =
    first_length_best p phase b sums x y program bases are start (none 0) other
