-- The brick sums of a program.
use Rattle.std.specs.Prelude.{ℕ, List}
use Rattle.lattice_theory.specs.SignedSums.{Sum, AreSums, ExceedsSumsOf}
use Rattle.fold_theory.specs.declared.Phase.{Phase}
use Rattle.fold_theory.specs.Programs.{Program}
use Rattle.run_theory.specs.Links.{Bases, generators, fold_complexity}

-- all sums of at most as many signed generators as the complexity of the program in this phase
abbrev pub AreBrickSums : Program → Phase → Bases → List Sum → Type 0
AreBrickSums p phase b sums = AreSums p.brick.cols (generators p b.brick) (fold_complexity p phase b) sums

-- there are more than most of them
abbrev pub ExceedsSums : Program → Phase → Bases → ℕ → Type 0
ExceedsSums p phase b most = ExceedsSumsOf p.brick.cols (generators p b.brick) (fold_complexity p phase b) most
