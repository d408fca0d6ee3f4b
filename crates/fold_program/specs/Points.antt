-- Points of a program.
use Rattle.std.specs.Prelude.{◌≡◌, ◌*◌, ◌⊎◌, ℤ, List, length, All, Contains, false}
use Rattle.lattice_theory.specs.Vectors.{is_bounded, IsBoundedRow}
use Rattle.lattice_theory.specs.Matrices.{rows_of}
use Rattle.fold_theory.specs.Programs.{Program, Bricks}

-- the point has a vector for each brick, and each has an entry for each column
pub record HasPointShape (p : Program) (x : Bricks) : Type 0 where
  pub bricks : length x ≡ length p.bricks
  pub widths : All (λ v. length v ≡ p.link.cols) x

-- the entries, brick by brick, make this point
pub record IsPoint (p : Program) (entries : List ℤ) (x : Bricks) : Type 0 where
  pub size : length entries ≡ length p.bricks * p.link.cols
  pub small : IsBoundedRow entries
  pub value : x ≡ rows_of (length p.bricks) p.link.cols entries

-- the number of entries is wrong, or one is past 2 ^ 62
abbrev pub IsNoPoint : Program → List ℤ → Type 0
IsNoPoint p entries =
    ((length entries ≡ length p.bricks * p.link.cols) → ⊥) ⊎ ((a : ℤ) × Contains entries a × (is_bounded a ≡ false))
