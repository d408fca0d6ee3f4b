-- The definitions at values worked by hand.
use Rattle.std.specs.Prelude.{◌≡◌, ℕ, false, true, List, pos, negsuc, [], ◌∷◌, Some, None, Ok, Err, codes, refl}
use Rattle.fold_theory.specs.declared.Cost.TheVariants.{Quadratic, Points}
use Rattle.fold_theory.specs.declared.Relation.TheVariants.{Equal, Less, Greater}
use Rattle.fold_theory.specs.Programs.{Program, Brick}
use Rattle.fold_shelf.specs.Outside.{File, without}
use Rattle.mat_files.specs.declared.MatFault.TheVariants as mat
use Rattle.fold_program.specs.declared.FileKind.TheVariants as file
use Rattle.fold_program.specs.declared.ProgramFault.TheVariants as program
use Rattle.fold_files.specs.declared.fault.CostFileFault.TheVariants as cost
use Rattle.fold_files.specs.declared.fault.RelationFault.TheVariants as relation
use Rattle.fold_files.specs.declared.fault.ReadFault.TheVariants as read
use Rattle.fold_files.specs.CostText.{parsed_costs}
use Rattle.fold_files.specs.RelationText.{parsed_relations}
use Rattle.fold_files.specs.Reading.{program_in, point_in, plain_in}

-- costs of two bricks with two columns
pub four_costs : parsed_costs 2 2 (codes "2 2 q 1 0 0 q 0 0 0 q 1 0 0 q 0 0 0")
    ≡ Ok (Quadratic (pos 1) (pos 0) (pos 0) ∷ Quadratic (pos 0) (pos 0) (pos 0) ∷ Quadratic (pos 1) (pos 0) (pos 0) ∷
    Quadratic (pos 0) (pos 0) (pos 0) ∷ [])
four_costs = refl

-- a line from 0 to 8
pub a_line : parsed_costs 1 1 (codes "1 1 p 2 0 0 4 8")
    ≡ Ok (Points (record { at = pos 0; value = pos 0 } ∷ record { at = pos 4; value = pos 8 } ∷ []) ∷ [])
a_line = refl

pub empty_file : parsed_costs 1 1 [] ≡ Err (cost.Syntax 0)
empty_file = refl

pub other_bricks : parsed_costs 1 1 (codes "2 1 q 0 0 0") ≡ Err (cost.Syntax 0)
other_bricks = refl

pub other_columns : parsed_costs 1 1 (codes "1 2 q 0 0 0") ≡ Err (cost.Syntax 2)
other_columns = refl

pub capital_letter : parsed_costs 1 1 (codes "1 1 Q 0 0 0") ≡ Err (cost.Syntax 4)
capital_letter = refl

pub two_numbers : parsed_costs 1 1 (codes "1 1 q 0 0") ≡ Err (cost.Syntax 9)
two_numbers = refl

pub no_breakpoint : parsed_costs 1 1 (codes "1 1 p 0") ≡ Err (cost.Syntax 6)
no_breakpoint = refl

pub many_breakpoints : parsed_costs 1 1 (codes "1 1 p 1001 0 0") ≡ Err (cost.Syntax 6)
many_breakpoints = refl

-- the value of a number decides
pub three_relations : parsed_relations 3 (codes "+1 03 = < >") ≡ Ok (Equal ∷ Less ∷ Greater ∷ [])
three_relations = refl

pub no_relation : parsed_relations 0 (codes "1 -0") ≡ Ok []
no_relation = refl

pub rows_of_none : parsed_relations 1 (codes "1 0") ≡ Err (relation.Syntax 2)
rows_of_none = refl

pub one_short : parsed_relations 2 (codes "1 2 = ") ≡ Err (relation.Syntax 6)
one_short = refl

pub one_too_many : parsed_relations 1 (codes "1 1 = =") ≡ Err (relation.Syntax 6)
one_too_many = refl

pub another_sign : parsed_relations 1 (codes "1 1 <=") ≡ Err (relation.Syntax 4)
another_sign = refl

pub token_after : parsed_costs 1 1 (codes "1 1 q 0 0 0 q") ≡ Err (cost.Syntax 12)
token_after = refl

-- 2 ^ 62 is the largest number
pub largest_number : parsed_costs 1 1 (codes "1 1 q 0 0 -4611686018427387904")
    ≡ Ok (Quadratic (pos 0) (pos 0) (negsuc 4611686018427387903) ∷ [])
largest_number = refl

pub larger_number : parsed_costs 1 1 (codes "1 1 q 0 0 4611686018427387905") ≡ Err (cost.Syntax 10)
larger_number = refl

-- the value of a count decides, and it has no minus sign
pub long_count : parsed_costs 1 1 (codes "01 +001 p 002 0 0 1 1")
    ≡ Ok (Points (record { at = pos 0; value = pos 0 } ∷ record { at = pos 1; value = pos 1 } ∷ []) ∷ [])
long_count = refl

pub no_count : parsed_costs 1 1 (codes "-1 1 q 0 0 0") ≡ Err (cost.Syntax 0)
no_count = refl

-- ---- the files of a program of two bricks with two columns each, one linking row and one brick row

abbrev file_of : List ℕ → List ℕ → File
file_of name bytes = record { name = name; bytes = bytes }

-- with these upper bounds
abbrev files_with : List ℕ → List File
files_with upper =
    file_of (codes "t.link.mat") (codes "1 2 1 0")
    ∷ file_of (codes "t.brick.mat") (codes "1 2 1 1")
    ∷ file_of (codes "t.lb") (codes "2 2 0 0 0 0")
    ∷ file_of (codes "t.ub") upper
    ∷ file_of (codes "t.rhs") (codes "1 3 3 4 4")
    ∷ file_of (codes "t.cost") (codes "2 2 q 1 0 0 q 0 0 0 q 1 0 0 q 0 0 0")
    ∷ file_of (codes "t.pt") (codes "2 2 1 3 2 2")
    ∷ []

abbrev the_files : List File
the_files = files_with (codes "2 2 4 4 4 4")

abbrev one_brick : Brick
one_brick = record {
  lower = pos 0 ∷ pos 0 ∷ [];
  upper = pos 4 ∷ pos 4 ∷ [];
  right = pos 4 ∷ [];
  costs = Quadratic (pos 1) (pos 0) (pos 0) ∷ Quadratic (pos 0) (pos 0) (pos 0) ∷ [];
}

abbrev the_program : Program
the_program = record {
  link = record { cols = 2; rows = (pos 1 ∷ pos 0 ∷ []) ∷ [] };
  link_right = pos 3 ∷ [];
  relations = Equal ∷ [];
  brick = record { cols = 2; rows = (pos 1 ∷ pos 1 ∷ []) ∷ [] };
  bricks = one_brick ∷ one_brick ∷ [];
}

pub a_program : program_in the_files (codes "t") false ≡ Ok the_program
a_program = refl

pub a_point : point_in the_files (codes "t") the_program ≡ Ok
    (record { cols = 2; rows = (pos 1 ∷ pos 3 ∷ []) ∷ (pos 2 ∷ pos 2 ∷ []) ∷ [] })
a_point = refl

-- the first file that is absent counts
pub no_costs : program_in (without the_files (codes "t.cost")) (codes "t") false ≡ Err (read.Shelf file.Costs)
no_costs = refl

pub no_files : program_in [] (codes "t") false ≡ Err (read.Shelf file.Link)
no_files = refl

pub no_matrix : plain_in the_files (codes "t") ≡ Err (read.Shelf file.Plain)
no_matrix = refl

-- a file's fault comes before those of later files and of the program
pub no_bound : program_in (files_with (codes "2 2 4 *")) (codes "t") false ≡ Err (read.Form file.Upper (mat.NoBound 6))
no_bound = refl

pub short_bounds : program_in (files_with (codes "1 2 -1 -1")) (codes "t") false ≡ Err
    (read.Form file.Upper (mat.Shape 0 (pos 1) 2 2))
short_bounds = refl

pub crossed_bounds : program_in (files_with (codes "2 2 4 -1 -1 4")) (codes "t") false ≡ Err
    (read.Program (program.CrossedBounds 1 2))
crossed_bounds = refl

-- ---- the same files with one of relations

abbrev related_by : List ℕ → List File
related_by text = file_of (codes "t.rel") text ∷ the_files

pub at_most_its_right_side : program_in (related_by (codes "1 1 <")) (codes "t") true ≡ Ok
    (record the_program { relations = Less ∷ [] })
at_most_its_right_side = refl

pub not_asked_for : program_in (related_by (codes "1 1 <")) (codes "t") false ≡ Ok the_program
not_asked_for = refl

pub no_relations : program_in the_files (codes "t") true ≡ Err (read.Shelf file.Relations)
no_relations = refl

pub no_such_relation : program_in (related_by (codes "1 1\n~")) (codes "t") true ≡ Err (read.Relations 4)
no_such_relation = refl

-- relations come after the right sides and before the costs
pub relations_before_costs : program_in (without (related_by (codes "1 1 ~")) (codes "t.cost")) (codes "t") true ≡ Err
    (read.Relations 4)
relations_before_costs = refl

pub right_sides_before_relations : program_in (without (related_by (codes "1 1 ~")) (codes "t.rhs")) (codes "t") true ≡
    Err (read.Shelf file.Right)
right_sides_before_relations = refl
