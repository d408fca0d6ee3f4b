use Rattle.std.proofs.Common.{◌≡◌, ◌++◌, flat_map, take}
use Rattle.nfold_cli.specs.RunTexts.{brick_step_text}
use Rattle.nfold_cli.proofs.solved_texts.with_brick_run.Given as goal

-- the lines of the steps so far
abbrev pub invariant-loop-step : goal.invariant-loop-step
invariant-loop-step l = l.text.items ≡ l.fn.text.items ++ flat_map (brick_step_text l.brick) (take l.step-index l.steps)
