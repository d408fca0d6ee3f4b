-- When a sum of vectors is refused.
use Rattle.std.specs.Prelude.{◌≡◌, Some}
use Rattle.int_vectors.specs.declared.total.VecFault.{VecFault}
use Rattle.int_vectors.specs.declared.total.VecFault.TheVariants.{TooLarge, Memory}
use Rattle.lattice_theory.specs.Vectors.{Vector, first_unbounded}

-- the fault names the first place at which the sum is too large; want of memory may come at any time
abbrev pub IsAddFault : Vector → VecFault → Type 0
IsAddFault sum (TooLarge at) = first_unbounded sum ≡ Some at
IsAddFault sum Memory = Unit {0}
