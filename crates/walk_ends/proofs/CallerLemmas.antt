-- Which steps are small: those along sums of small images, of any length.
use Rattle.std.proofs.Common.{◌≡◌, ℕ, ◌*◌, ◌^◌, ◌<◌, ◌≤◌, ℤ, pos, ◌*ℤ◌, unsigned_abs, arith}
use Rattle.std.proofs.Math.Nat.{mul-le-mul, pow-le-pow_right}
use Rattle.std.proofs.lemmas.Int.{unsigned_abs-mul}
use Rattle.std.proofs.lemmas.List.Elements.{All-map, All-weaker}
use Rattle.lattice_theory.specs.Vectors.{Vector}
use Rattle.lattice_theory.specs.Matrices.{product}
use Rattle.fold_theory.specs.Programs.{Program}
use Rattle.run_theory.specs.Folds.{IsSmallImage}
use Rattle.walk_ends.specs.Steps.{IsSmallStep}

pub small_image_step : (p : Program) (k : ℕ) (w : Vector) → k < 64 → IsSmallImage p w → IsSmallStep p k w
small_image_step p k w short image =
    All-map (λ a. unsigned_abs a ≤ 2 ^ 113) (λ a. pos (2 ^ k) *ℤ a) (product p.link w)
    (All-weaker (λ a. unsigned_abs a ≤ 2 ^ 50) (λ a. unsigned_abs (pos (2 ^ k) *ℤ a) ≤ 2 ^ 113) times (product p.link w)
    image)
  where
    long : 2 ^ k ≤ 2 ^ 63
    long = pow-le-pow_right {n = 2} (omega arith) {i = k} {j = 63} (omega (arith, short))

    times : (a : ℤ) → unsigned_abs a ≤ 2 ^ 50 → unsigned_abs (pos (2 ^ k) *ℤ a) ≤ 2 ^ 113
    times a small =
        let both : 2 ^ k * unsigned_abs a ≤ 2 ^ 63 * 2 ^ 50 = mul-le-mul long small in
        omega (arith, unsigned_abs-mul (pos (2 ^ k)) a, both)
