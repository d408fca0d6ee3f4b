-- How many steps the rule makes in a phase, and what the trace tells of their number.
use Rattle.std.specs.Prelude.{◌≡◌, ℕ, ◌*◌, ◌≤◌, ◌-ℤ◌, unsigned_abs, List, ◌++◌, length, flat_map, Some, IfSome}
use Rattle.lattice_theory.specs.SignedSums.{Sum, vectors}
use Rattle.fold_theory.specs.declared.Phase.{Phase}
use Rattle.fold_theory.specs.declared.Phase.TheVariants.{Closed, Counted}
use Rattle.fold_theory.specs.Programs.{Program, Bricks, phase_cost}
use Rattle.run_theory.specs.Links.{Bases, AreBases}
use Rattle.run_theory.specs.BrickSums.{AreBrickSums}
use Rattle.run_theory.specs.Starts.{IsStart}
use Rattle.run_theory.specs.Outcomes.{RunRecord, IsRecorded, Outcome, steps_from, bound_number}
use Rattle.run_theory.specs.Digits.{binary_digits}
use Rattle.nfold_cli.specs.RunTexts.{step_text, made_text, run_text}

-- what is gained on the way from x to y
abbrev pub gained : Program → Phase → Bricks → Bricks → ℕ
gained p phase x y = unsigned_abs (phase_cost p phase x -ℤ phase_cost p phase y)

-- the record is of a run of the rule from where the phase starts until the rule has no step. The trace has a line for
-- each of these steps, and one that tells how many they are, the bound number K, and the number B of binary digits of
-- the whole gain; and they are at most K·B
pub record IsTold (p : Program) (phase : Phase) (r : RunRecord) : Type 0 where
  pub bases : Bases
  pub are : AreBases p bases
  pub sums : List Sum
  pub all : AreBrickSums p phase bases sums
  pub first : Bricks
  pub start : IsStart p phase first
  pub last : Bricks
  pub made : IsRecorded p phase (vectors sums) first r last
  pub lines : run_text phase p.brick.cols (Some r) ≡
      flat_map (step_text phase p.brick.cols) (steps_from p phase first made.moves)
      ++ made_text phase (length made.moves) (bound_number p (vectors sums)) (gained p phase first last)
  pub few : length made.moves ≤ bound_number p (vectors sums) * binary_digits (gained p phase first last)

-- so it is with each phase of the outcome that ran
pub record AreTold (p : Program) (o : Outcome) : Type 0 where
  pub counted : IfSome o.counted (IsTold p Counted)
  pub closed : IfSome o.closed (IsTold p Closed)
