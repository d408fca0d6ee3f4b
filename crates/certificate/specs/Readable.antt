-- The limits of what a certificate holds, which its type keeps: within them it can be printed and read back.
use Rattle.std.specs.Prelude.{◌≡◌, ℕ, ◌*◌, ◌^◌, ◌≤◌, ℤ, pos, ◌≤ℤ◌, unsigned_abs, [], ◌∷◌, length, Option, Some, None}
use Rattle.std.specs.Prelude.{All}
use Rattle.lattice_theory.specs.Vectors.{Vector, IsBoundedRow}
use Rattle.lattice_theory.specs.Matrices.{Matrix}
use Rattle.lattice_theory.specs.BasisLimits.{IsNarrow}
use Rattle.run_theory.specs.declared.Claim.{Claim}
use Rattle.run_theory.specs.declared.Claim.TheVariants as claim
use Rattle.run_theory.specs.Certificates.{Table, FoldPart, Certificate}

-- a level, which is a count of at most 2 ^ 62, and then entries of at most 2 ^ 47 in absolute value
abbrev pub IsSumRow : Vector → Type 0
IsSumRow [] = Unit {0}
IsSumRow (level ∷ v) = (pos 0 ≤ℤ level) × (unsigned_abs level ≤ 2 ^ 62) × All (λ a. unsigned_abs a ≤ 2 ^ 47) v

-- an entry of the table, which is at most 2 ^ 124 in absolute value where there is one
abbrev pub IsCell : Option ℤ → Type 0
IsCell None = Unit {0}
IsCell (Some a) = unsigned_abs a ≤ 2 ^ 124

-- a matrix of at most so many rows and columns, where each row has an entry for each column
pub record IsWithin (most_rows most_cols : ℕ) (m : Matrix) : Type 0 where
  pub rows : length m.rows ≤ most_rows
  pub cols : m.cols ≤ most_cols
  pub width : All (λ row. length row ≡ m.cols) m.rows

-- a table of potentials whose size and entries are within what can be read
pub record IsWithinTable (t : Table) : Type 0 where
  pub rows : length t.rows ≤ 10001
  pub cols : t.cols ≤ 20000
  pub product : length t.rows * t.cols ≤ 2 ^ 20
  pub width : All (λ row. length row ≡ t.cols) t.rows
  pub cells : All (λ row. All IsCell row) t.rows

-- parts about the linking rows that are within what can be read
pub record IsReadablePart (f : FoldPart) : Type 0 where
  pub links : IsWithin 2000 2016 f.links
  pub narrow : All IsNarrow f.links.rows
  pub bound : f.bound ≤ 2 ^ 62
  pub sums : IsWithin 20000 33 f.sums
  pub sum_rows : All IsSumRow f.sums.rows
  pub potentials : IsWithinTable f.potentials

-- the claim is on all bricks
abbrev pub IsOnAllBricks : Claim → Type 0
IsOnAllBricks claim.Optimal = Unit {0}
IsOnAllBricks (claim.InfeasibleBrick i) = ⊥
IsOnAllBricks claim.InfeasibleLink = Unit {0}

-- the claim is on one brick, whose number is at most 10,000
abbrev pub IsOnBrick : Claim → Type 0
IsOnBrick claim.Optimal = ⊥
IsOnBrick (claim.InfeasibleBrick i) = i ≤ 10000
IsOnBrick claim.InfeasibleLink = ⊥

-- a brick that is claimed of has a number of at most 10,000
abbrev pub IsNumbered : Claim → Type 0
IsNumbered claim.Optimal = Unit {0}
IsNumbered (claim.InfeasibleBrick i) = i ≤ 10000
IsNumbered claim.InfeasibleLink = Unit {0}

-- the parts about the linking rows are there exactly where the claim is on all bricks
abbrev pub FitsClaim : Claim → Option FoldPart → Type 0
FitsClaim c None = IsOnBrick c
FitsClaim c (Some f) = IsOnAllBricks c × IsReadablePart f

-- a certificate whose parts are within what can be read
pub record IsReadable (c : Certificate) : Type 0 where
  pub parts : FitsClaim c.claim c.fold
  pub point : IsWithin 10000 32 c.point
  pub bounded : All IsBoundedRow c.point.rows
  pub bricks : IsWithin 2000 48 c.bricks
  pub narrow : All IsNarrow c.bricks.rows
