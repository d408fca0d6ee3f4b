use Rattle.std.proofs.Common.{◌≡◌, ◌++◌, flat_map, take}
use Rattle.nfold_cli.specs.RunTexts.{step_text}
use Rattle.nfold_cli.proofs.solved_texts.with_steps.Given as goal

-- the lines of the steps so far
abbrev pub invariant-loop-step : goal.invariant-loop-step
invariant-loop-step l =
    l.text.items ≡ l.fn.text.items ++ flat_map (step_text l.phase l.cols) (take l.step-index l.steps)
