-- Where walks end: no end costs less than the potential of its sum.
use Rattle.std.specs.Prelude.{ℤ, Bool, List, Option}
use Rattle.fold_theory.specs.declared.Phase.{Phase}
use Rattle.lattice_theory.specs.Lists.{all_zip}
use Rattle.lattice_theory.specs.Vectors.{Vector}
use Rattle.lattice_theory.specs.Matrices.{product}
use Rattle.fold_theory.specs.Programs.{Program}
use Rattle.run_theory.specs.Walks.{end_cost}
use Rattle.run_theory.specs.Checker.{at_most}

-- the last layer holds
abbrev pub ends_hold : Program → Phase → List Vector → Vector → List (Option ℤ) → Bool
ends_hold p phase zs rests row = all_zip (λ w here. at_most here (end_cost p phase rests (product p.link w))) zs row
