-- What the layered programme stands on: a program, a phase and the sums that its steps take.
use Rattle.std.specs.Prelude.{◌≡◌, ◌≤◌, ◌^◌, List, length, All, unsigned_abs}
use Rattle.fold_theory.specs.declared.Phase.{Phase}
use Rattle.lattice_theory.specs.Vectors.{Vector}
use Rattle.lattice_theory.specs.Matrices.{product}
use Rattle.lattice_theory.specs.SignedSums.{Sum, vectors}
use Rattle.fold_theory.specs.Programs.{Program}
use Rattle.run_theory.specs.Links.{Bases, AreBases}
use Rattle.run_theory.specs.BrickSums.{AreBrickSums}
use Rattle.run_theory.specs.Limits.{FitsTable}

pub record FoldValue : Type 0 where
  pub program : Program
  pub phase : Phase
  pub sums : List Sum

-- the vector changes each linking row by at most 2 ^ 50
abbrev pub IsSmallImage : Program → Vector → Type 0
IsSmallImage p w = All (λ a. unsigned_abs a ≤ 2 ^ 50) (product p.link w)

-- the sums have an entry for each column, their images are small, and the table of all layers is within its limit
pub record IsFold (f : FoldValue) : Type 0 where
  pub table : FitsTable f.program f.sums
  pub widths : All (λ w. length w ≡ f.program.brick.cols) (vectors f.sums)
  pub images : All (IsSmallImage f.program) (vectors f.sums)

-- the sums are the brick sums of the program in its phase
abbrev pub HasBrickSums : FoldValue → Type 0
HasBrickSums f = (b : Bases) × AreBases f.program b × AreBrickSums f.program f.phase b f.sums
