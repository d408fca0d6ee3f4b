-- Steps along sums whose entries have at most 47 bits change the linking rows by little.
use Rattle.std.proofs.Common.{◌*◌, ◌^◌, ◌<◌, ◌≤◌, ℤ, pos, ◌*ℤ◌, unsigned_abs, [], ◌∷◌, length, arith, All}
use Rattle.std.specs.List.{AllByRecursion}
use Rattle.std.proofs.Math.Nat.{mul-le-mul}
use Rattle.std.proofs.lemmas.Int.{ints, unsigned_abs-mul}
use Rattle.std.proofs.lemmas.List.Elements.{All-map, All-weaker, recursion_from_All}
use Rattle.lattice_theory.specs.Vectors.{Vector, dot}
use Rattle.lattice_theory.specs.Matrices.{product}
use Rattle.lattice_theory.specs.BasisLimits.{IsNarrow}
use Rattle.fold_theory.specs.Programs.{Program}
use Rattle.listed_sums.specs.Places.{IsModest}
use Rattle.walk_ends.specs.Steps.{IsSmallStep}

-- the product of a narrow row and such a sum
dot_small : (row w : Vector) → AllByRecursion (λ a. unsigned_abs a < 2 ^ 31) row →
    AllByRecursion (λ a. unsigned_abs a ≤ 2 ^ 47) w → unsigned_abs (dot row w) ≤ 2 ^ 78 * length w
dot_small [] w narrow modest = omega (arith, ints)
dot_small (a ∷ row) [] narrow modest = omega (arith, ints)
dot_small (a ∷ row) (x ∷ w) narrow modest =
    let below : unsigned_abs a ≤ 2 ^ 31 = omega (arith, narrow.0) in
    let both : unsigned_abs a * unsigned_abs x ≤ 2 ^ 31 * 2 ^ 47 = mul-le-mul below modest.0 in
    omega (arith, ints, both, unsigned_abs-mul a x, dot_small row w narrow.1 modest.1)

-- once such a sum
pub modest_step : (p : Program) (w : Vector) → All IsNarrow p.link.rows → length w ≤ 32 → IsModest w → IsSmallStep p 0 w
modest_step p w narrow few modest =
    All-map (λ a. unsigned_abs a ≤ 2 ^ 113) (λ a. pos (2 ^ 0) *ℤ a) (product p.link w)
    (All-map (λ a. unsigned_abs (pos (2 ^ 0) *ℤ a) ≤ 2 ^ 113) (λ row. dot row w) p.link.rows
    (All-weaker IsNarrow (λ row. unsigned_abs (pos (2 ^ 0) *ℤ dot row w) ≤ 2 ^ 113) each p.link.rows narrow))
  where
    each : (row : Vector) → IsNarrow row → unsigned_abs (pos (2 ^ 0) *ℤ dot row w) ≤ 2 ^ 113
    each row small =
        omega (
          arith,
          few,
          unsigned_abs-mul (pos (2 ^ 0)) (dot row w),
          dot_small row w (recursion_from_All (λ a. unsigned_abs a < 2 ^ 31) row small)
              (recursion_from_All (λ a. unsigned_abs a ≤ 2 ^ 47) w modest),
        )
