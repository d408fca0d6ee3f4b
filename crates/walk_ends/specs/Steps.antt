-- How far a step along a sum may change the linking rows.
use Rattle.std.specs.Prelude.{ℕ, ◌^◌, ◌≤◌, pos, unsigned_abs, All}
use Rattle.lattice_theory.specs.Vectors.{Vector, scale}
use Rattle.lattice_theory.specs.Matrices.{product}
use Rattle.fold_theory.specs.Programs.{Program}

-- 2 ^ k times the sum changes each linking row by at most 2 ^ 113
abbrev pub IsSmallStep : Program → ℕ → Vector → Type 0
IsSmallStep p k w = All (λ a. unsigned_abs a ≤ 2 ^ 113) (scale (pos (2 ^ k)) (product p.link w))
