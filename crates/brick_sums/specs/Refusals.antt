-- When a list of sums is refused.
use Rattle.std.specs.Prelude.{ℕ}
use Rattle.brick_sums.specs.declared.fault.SumsFault.{SumsFault}
use Rattle.brick_sums.specs.declared.fault.SumsFault.TheVariants.{Limit, Memory}
use Rattle.lattice_theory.specs.Matrices.{Matrix}
use Rattle.lattice_theory.specs.SignedSums.{ExceedsSumsOf}

-- there are more sums than the limit; want of memory may come at any time
abbrev pub IsSumsFault : Matrix → ℕ → ℕ → SumsFault → Type 0
IsSumsFault gens g most Limit = ExceedsSumsOf gens.cols gens.rows g most
IsSumsFault gens g most Memory = Unit {0}
