-- Which vectors may be added: those of smaller entries.
use Rattle.std.proofs.Common.{◌<◌, ◌≤◌, ◌^◌, ℕ, unsigned_abs, arith, All}
use Rattle.std.proofs.lemmas.List.Elements.{All-weaker}
use Rattle.lattice_theory.specs.Vectors.{Vector}
use Rattle.vector_sums.specs.Sizes.{IsBounded, IsSmall}

pub IsSmall-below : (most : ℕ) (v : Vector) → most ≤ 2 ^ 62 → All (λ a. unsigned_abs a < most) v → IsSmall v
IsSmall-below most v low all =
    All-weaker (λ a. unsigned_abs a < most) (λ a. unsigned_abs a < 2 ^ 62) (λ a small. omega (arith, small, low)) v all

pub IsBounded-below : (most : ℕ) (v : Vector) → most ≤ 2 ^ 62 → All (λ a. unsigned_abs a < most) v → IsBounded v
IsBounded-below most v low all =
    All-weaker (λ a. unsigned_abs a < most) (λ a. unsigned_abs a ≤ 2 ^ 62) (λ a small. omega (arith, small, low)) v all
