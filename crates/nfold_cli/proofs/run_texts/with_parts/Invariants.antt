use Rattle.std.proofs.Common.{◌≡◌, ◌++◌, drop}
use Rattle.nfold_cli.specs.RunTexts.{parts_text}
use Rattle.nfold_cli.proofs.run_texts.with_parts.Given as goal

-- what is written, and then the parts that are left, is the whole
abbrev pub invariant-loop-brick : goal.invariant-loop-brick
invariant-loop-brick l =
    l.text.items ++ parts_text l.cols (drop l.brick-index l.bricks) l.left
    ≡ l.fn.text.items ++ parts_text l.cols l.bricks l.entries
