-- Where the rule's steps lead.
use Rattle.std.specs.Prelude.{◌≡◌}
use Rattle.lattice_theory.specs.SignedSums.{vectors}
use Rattle.fold_theory.specs.Programs.{Bricks}
use Rattle.run_theory.specs.Steps.{Move, IsBest, moved}
use Rattle.run_theory.specs.Outcomes.{Step, step_at}
use Rattle.run_theory.specs.Folds.{FoldValue}

-- the rule's step that was recorded so leads from x to y
abbrev pub LeadsTo : FoldValue → Bricks → Step → Bricks → Type 0
LeadsTo f x s y =
    (m : Move) → IsBest f.program f.phase (vectors f.sums) x m → s ≡ step_at f.program f.phase x m →
    y ≡ moved x m.k m.bricks
