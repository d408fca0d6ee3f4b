-- When a link matrix is refused.
use Rattle.std.specs.Prelude.{◌≡◌, ℕ, ◌+◌, ◌^◌, ◌≤◌, ℤ, unsigned_abs, take, slice_get, Some}
use Rattle.lattice_theory.specs.Vectors.{Vector}
use Rattle.lattice_theory.specs.Matrices.{Matrix}
use Rattle.lattice_theory.specs.BasisLimits.{IsNarrow}
use Rattle.run_theory.specs.Limits.{IsFirstWide}
use Rattle.graver_complexity.specs.declared.fault.LinkFault.{LinkFault}
use Rattle.graver_complexity.specs.declared.fault.LinkFault.TheVariants.{WideEntry, Memory}

-- the named entry is the first that is too large; want of memory may come at any time
abbrev pub IsWideEntry : Matrix → LinkFault → Type 0
IsWideEntry m (WideEntry row col) = IsFirstWide m row col
IsWideEntry m Memory = Unit {0}

-- the first entry of one row that is past 2 ^ 31 - 1 in absolute value
pub record IsFirstWideOf (entries : Vector) (col : ℕ) : Type 0 where
  pub j : ℕ
  pub numbered : col ≡ j + 1
  pub entry : ℤ
  pub there : slice_get entries j ≡ Some entry
  pub wide : 2 ^ 31 ≤ unsigned_abs entry
  pub before : IsNarrow (take j entries)

-- in the row with this number the named entry is the first that is too large
abbrev pub IsWideInRow : ℕ → Vector → LinkFault → Type 0
IsWideInRow number entries (WideEntry row col) = (row ≡ number) × IsFirstWideOf entries col
IsWideInRow number entries Memory = Unit {0}
