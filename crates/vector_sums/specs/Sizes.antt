-- How large the entries of two vectors may be, so that each sum and each difference of two entries has 64 bits.
use Rattle.std.specs.Prelude.{◌≤◌, ◌<◌, ◌^◌, unsigned_abs, All}
use Rattle.lattice_theory.specs.Vectors.{Vector}

-- each entry is at most 2 ^ 62 in absolute value
abbrev pub IsBounded : Vector → Type 0
IsBounded v = All (λ a. unsigned_abs a ≤ 2 ^ 62) v

-- each entry is less than that
abbrev pub IsSmall : Vector → Type 0
IsSmall v = All (λ a. unsigned_abs a < 2 ^ 62) v
