-- What is answered for one length.
use Rattle.std.specs.Prelude.{ℕ, Option}
use Rattle.run_theory.specs.declared.Key.{Key}
use Rattle.fold_theory.specs.Programs.{Bricks}
use Rattle.run_theory.specs.Folds.{FoldValue}
use Rattle.run_theory.specs.Bests.{IsFound, IsBeaten}
use Rattle.brick_dp.specs.declared.answers.StepAnswer.{StepAnswer}
use Rattle.brick_dp.specs.declared.answers.StepAnswer.TheVariants.{Found, Beaten}

-- what is answered for that length under the bound
abbrev pub IsStepAnswer : FoldValue → Bricks → ℕ → Option Key → StepAnswer → Type 0
IsStepAnswer f x k bound (Found s) = IsFound f x k s × (IsBeaten f x k bound → ⊥)
IsStepAnswer f x k bound Beaten = IsBeaten f x k bound
