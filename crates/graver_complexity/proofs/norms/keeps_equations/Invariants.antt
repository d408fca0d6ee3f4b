use Rattle.std.proofs.Common.{◌≡◌, drop}
use Rattle.fold_theory.specs.Programs.{keeps_equations}
use Rattle.graver_complexity.proofs.norms.keeps_equations.Given as goal

-- what is left of the rows decides
abbrev pub invariant-loop-at : goal.invariant-loop-at
invariant-loop-at l = keeps_equations (drop l.at l.relations) (drop l.at l.changes) ≡ keeps_equations l.relations
    l.changes
