-- Matrices of whole numbers, by their rows.
use Rattle.std.specs.Prelude.{◌≡◌, ℕ, zero, suc, ℤ, pos, Bool, ◌&&◌, nat_eq, List, [], ◌∷◌, ◌++◌, map, length, take}
use Rattle.std.specs.Prelude.{drop, All}
use Rattle.std.specs.List.{list_all}
use Rattle.lattice_theory.specs.Vectors.{Vector, dot, zeros}

-- a matrix with no row still has a number of columns
pub record Matrix : Type 0 where
  pub cols : ℕ
  pub rows : List Vector

-- the rows of length cols in a list of entries, row by row
abbrev pub rows_of : ℕ → ℕ → List ℤ → List Vector
rows_of zero cols entries = []
rows_of (suc n) cols entries = take cols entries ∷ rows_of n cols (drop cols entries)

-- the number of rows is this, and each row has as many entries as the matrix has columns
pub record HasShape (rows cols : ℕ) (m : Matrix) : Type 0 where
  pub height : length m.rows ≡ rows
  pub width : m.cols ≡ cols
  pub each_row : All (λ row. length row ≡ cols) m.rows

abbrev pub has_shape : ℕ → ℕ → Matrix → Bool
has_shape rows cols m =
    nat_eq (length m.rows) rows && nat_eq m.cols cols && list_all (λ row. nat_eq (length row) cols) m.rows

-- the matrix times a vector
abbrev pub product : Matrix → Vector → Vector
product m v = map (λ row. dot row v) m.rows

-- the element (v, A·v) of the lattice of A
abbrev pub element : Matrix → Vector → Vector
element m v = v ++ product m v

-- the j-th unit vector among n, where the first is number 0
abbrev pub unit_vector : ℕ → ℕ → Vector
unit_vector zero j = []
unit_vector (suc n) zero = pos 1 ∷ zeros n
unit_vector (suc n) (suc j) = pos 0 ∷ unit_vector n j
