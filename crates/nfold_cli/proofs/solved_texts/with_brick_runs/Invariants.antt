use Rattle.std.proofs.Common.{◌≡◌, ◌++◌, suc, map, drop}
use Rattle.phase_one.specs.Started.{lists}
use Rattle.nfold_cli.specs.RunTexts.{brick_runs_text}
use Rattle.nfold_cli.proofs.solved_texts.with_brick_runs.Given as goal

-- what is written, and then the lines of the bricks that are left, is the whole
abbrev pub invariant-loop-place : goal.invariant-loop-place
invariant-loop-place l =
    l.text.items ++ brick_runs_text (suc l.place) (map (λ t. t.items) (drop l.place l.runs))
    ≡ l.fn.text.items ++ brick_runs_text 1 (lists l.runs)
