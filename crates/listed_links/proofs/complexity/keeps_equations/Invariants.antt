use Rattle.std.proofs.Common.{◌≡◌, drop, length}
use Rattle.fold_theory.specs.Programs as programs
use Rattle.listed_links.proofs.complexity.keeps_equations.Given as goal

abbrev pub invariant-loop-relation : goal.invariant-loop-relation
invariant-loop-relation l =
    programs.keeps_equations (drop (length l.yielded) l.relations) (drop (length l.yielded) l.image)
    ≡ programs.keeps_equations l.relations l.image
