-- The program that five matrices, the relations and the costs make.
use Rattle.std.specs.Prelude.{◌≡◌, ℕ, List, [], ◌∷◌, length, take, drop, replicate, flat_map, All}
use Rattle.lattice_theory.specs.Vectors.{Vector}
use Rattle.lattice_theory.specs.Matrices.{Matrix}
use Rattle.fold_theory.specs.declared.Cost.{Cost}
use Rattle.fold_theory.specs.declared.Relation.{Relation}
use Rattle.fold_theory.specs.declared.Relation.TheVariants.{Equal}
use Rattle.fold_theory.specs.Programs.{Program, Brick}
use Rattle.fold_program.specs.declared.parts.Parts.{Parts}

-- the bricks of t columns and s rows, from their rows of bounds, the right sides one after the other, and the costs
abbrev pub bricks_from : ℕ → ℕ → List Vector → List Vector → Vector → List Cost → List Brick
bricks_from t s [] upper right costs = []
bricks_from t s (l ∷ lower) [] right costs = []
bricks_from t s (l ∷ lower) (u ∷ upper) right costs =
    record { lower = l; upper = u; right = take s right; costs = take t costs } ∷ bricks_from t s lower upper
    (drop s right) (drop t costs)

-- the entries of a matrix, row by row
abbrev pub all_entries : Matrix → Vector
all_entries m = flat_map (λ row. row) m.rows

-- the program of the linking matrix, the matrix of all bricks, the lower and the upper bounds with a row for each
-- brick, the
-- right sides, those of the linking rows and then those of the bricks, the relations, and the costs brick by brick
abbrev pub fold_of : (link brick lower upper right : Matrix) → List Relation → List Cost → Program
fold_of link brick lower upper right relations costs =
    let rights = all_entries right in
    record {
      link = link;
      link_right = take (length link.rows) rights;
      relations = relations;
      brick = brick;
      bricks = bricks_from link.cols (length brick.rows) lower.rows upper.rows (drop (length link.rows) rights) costs;
    }

-- the program that the parts make, whose linking rows are equations
abbrev pub program_of : Parts → Program
program_of p = fold_of p.link p.brick p.lower p.upper p.right (replicate (length p.link.rows) Equal) p.costs.items

-- the program with these relations of its linking rows
abbrev pub related : List Relation → Program → Program
related relations p = record p { relations = relations }

-- each row of the matrix has as many entries as there are columns
abbrev pub IsEven : Matrix → Type 0
IsEven m = All (λ row. length row ≡ m.cols) m.rows

-- the same of each matrix of the parts
pub record AreEven (p : Parts) : Type 0 where
  pub link : IsEven p.link
  pub brick : IsEven p.brick
  pub lower : IsEven p.lower
  pub upper : IsEven p.upper
  pub right : IsEven p.right
