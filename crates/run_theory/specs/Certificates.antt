-- The data of a certificate.
use Rattle.std.specs.Prelude.{ℕ, zero, suc, ℤ, List, [], ◌∷◌, map, take, drop, Option, unsigned_abs}
use Rattle.run_theory.specs.declared.Claim.{Claim}
use Rattle.lattice_theory.specs.Vectors.{Vector}
use Rattle.lattice_theory.specs.Matrices.{Matrix}
use Rattle.lattice_theory.specs.SignedSums.{Sum}

-- a table whose entries may be absent, by its rows
pub record Table : Type 0 where
  pub cols : ℕ
  pub rows : List (List (Option ℤ))

-- the parts about the linking rows
pub record FoldPart : Type 0 where
  pub links : Matrix
  pub bound : ℕ
  pub sums : Matrix
  pub potentials : Table

pub record Certificate : Type 0 where
  pub claim : Claim
  pub point : Matrix
  pub bricks : Matrix
  pub fold : Option FoldPart

-- a row of the matrix of sums is the level and then the vector
abbrev pub sum_of_row : Vector → Sum
sum_of_row [] = record { level = 0; vector = [] }
sum_of_row (a ∷ v) = record { level = unsigned_abs a; vector = v }

abbrev pub listed_sums : FoldPart → List Sum
listed_sums f = map sum_of_row f.sums.rows

-- the rows of a table whose cells stand row by row
abbrev pub table_rows : ℕ → ℕ → List (Option ℤ) → List (List (Option ℤ))
table_rows zero cols cells = []
table_rows (suc n) cols cells = take cols cells ∷ table_rows n cols (drop cols cells)

abbrev pub table_of : ℕ → ℕ → List (Option ℤ) → Table
table_of rows cols cells = record { cols = cols; rows = table_rows rows cols cells }
