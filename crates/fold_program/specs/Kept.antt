-- What a program keeps in memory, how it is seen, and what is true of it.
use Rattle.std.specs.Prelude.{◌≡◌, ◌+◌, ◌*◌, ◌^◌, ◌≤◌, map, length, All}
use Rattle.lattice_theory.specs.BasisLimits.{IsNarrow}
use Rattle.fold_theory.specs.Programs.{Program, IsProgram}
use Rattle.fold_program.specs.declared.program.Program.TheInside.{Inside}
use Rattle.fold_program.specs.Parts.{all_entries, fold_of}
use Rattle.lattice_theory.specs.Vectors.{IsBoundedRow}
use Rattle.fold_program.specs.Refusals.{total_magnitude}

-- the program that is kept
abbrev pub kept_program : Inside → Program
kept_program p = fold_of p.link p.brick p.lower p.upper p.right p.relations.items (map (λ c. c.cost) p.costs.items)

-- the sizes of the parts and of their entries are within their limits, the costs stand with the bounds of their
-- columns, and
-- the whole is a program
pub record IsKept (p : Inside) : Type 0 where
  pub link_rows : length p.link.rows ≤ 16
  pub cols_from : 1 ≤ p.link.cols
  pub cols_to : p.link.cols ≤ 32
  pub brick_rows : length p.brick.rows ≤ 16
  pub brick_cols : p.brick.cols ≡ p.link.cols
  pub bricks_from : 1 ≤ length p.lower.rows
  pub bricks_to : length p.lower.rows ≤ 10000
  pub lower_cols : p.lower.cols ≡ p.link.cols
  pub upper_rows : length p.upper.rows ≡ length p.lower.rows
  pub upper_cols : p.upper.cols ≡ p.link.cols
  pub right_rows : length p.right.rows ≡ 1
  pub right_cols : p.right.cols ≡ length p.link.rows + length p.lower.rows * length p.brick.rows
  pub link_narrow : All IsNarrow p.link.rows
  pub brick_narrow : All IsNarrow p.brick.rows
  pub lower_bounded : All IsBoundedRow p.lower.rows
  pub upper_bounded : All IsBoundedRow p.upper.rows
  pub lower_widths : All (λ row. length row ≡ p.link.cols) p.lower.rows
  pub upper_widths : All (λ row. length row ≡ p.link.cols) p.upper.rows
  pub lowers : map (λ c. c.lower) p.costs.items ≡ all_entries p.lower
  pub uppers : map (λ c. c.upper) p.costs.items ≡ all_entries p.upper
  pub small : total_magnitude (kept_program p) ≤ 2 ^ 120
  pub program : IsProgram (kept_program p)
