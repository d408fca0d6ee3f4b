-- The definitions at values worked by hand: a program of two bricks with two columns each, one linking row and one
-- brick row; three suppliers.
use Rattle.std.specs.Prelude.{◌≡◌, ℕ, ℤ, pos, true, false, map, [], ◌∷◌, Some, None, refl}
use Rattle.fold_theory.specs.declared.Cost.{Cost}
use Rattle.fold_theory.specs.declared.Cost.TheVariants.{Quadratic, Points}
use Rattle.fold_theory.specs.declared.Relation.{Relation}
use Rattle.fold_theory.specs.declared.Relation.TheVariants.{Equal, Less, Greater}
use Rattle.fold_theory.specs.declared.Broken.TheVariants.{Above, BrickRow, LinkRow}
use Rattle.lattice_theory.specs.Matrices.{unit_vector}
use Rattle.lattice_theory.proofs.KnownValues.{minus}
use Rattle.fold_theory.specs.Programs.{Program, Brick, Bricks, cost, widest, dist, keeps_equations}
use Rattle.fold_theory.specs.Breaks.{breaks, first_break}
use Rattle.fold_theory.specs.Costs.{value}

abbrev pub square : Cost
square = Quadratic (pos 1) (pos 0) (pos 0)

abbrev pub free : Cost
free = Quadratic (pos 0) (pos 0) (pos 0)

abbrev pub brick_with : ℕ → Brick
brick_with b = record {
  lower = pos 0 ∷ pos 0 ∷ [];
  upper = pos 4 ∷ pos 4 ∷ [];
  right = pos b ∷ [];
  costs = square ∷ free ∷ [];
}

abbrev pub related_program : Relation → ℕ → ℕ → Program
related_program relation b0 b1 = record {
  link = record { cols = 2; rows = (pos 1 ∷ pos 0 ∷ []) ∷ [] };
  link_right = pos b0 ∷ [];
  relations = relation ∷ [];
  brick = record { cols = 2; rows = (pos 1 ∷ pos 1 ∷ []) ∷ [] };
  bricks = brick_with b1 ∷ brick_with 4 ∷ [];
}

abbrev pub program_with : ℕ → ℕ → Program
program_with b0 b1 = related_program Equal b0 b1

abbrev pub the_program : Program
the_program = program_with 3 4

abbrev pub point_of : ℤ → ℤ → ℤ → ℤ → Bricks
point_of a b c d = (a ∷ b ∷ []) ∷ (c ∷ d ∷ []) ∷ []

abbrev pub best_point : Bricks
best_point = point_of (pos 1) (pos 3) (pos 2) (pos 2)

pub nothing_broken : breaks the_program best_point ≡ []
nothing_broken = refl

pub its_cost : cost the_program best_point ≡ pos 5
its_cost = refl

pub brick_row_broken : first_break the_program (point_of (pos 1) (pos 3) (pos 2) (pos 1)) ≡ Some (BrickRow 2 1)
brick_row_broken = refl

pub link_row_broken : first_break the_program (point_of (pos 0) (pos 4) (pos 2) (pos 2)) ≡ Some (LinkRow 1)
link_row_broken = refl

pub above_broken : first_break the_program (point_of (pos 5) (minus 1) (pos 2) (pos 2)) ≡ Some (Above 1 1)
above_broken = refl

pub its_width : widest the_program ≡ 4
its_width = refl

-- what a row misses, by its relation
pub misses_of_equations : map (dist Equal) (minus 2 ∷ pos 0 ∷ pos 3 ∷ []) ≡ 2 ∷ 0 ∷ 3 ∷ []
misses_of_equations = refl

pub misses_of_at_most : map (dist Less) (minus 2 ∷ pos 0 ∷ pos 3 ∷ []) ≡ 2 ∷ 0 ∷ 0 ∷ []
misses_of_at_most = refl

pub misses_of_at_least : map (dist Greater) (minus 2 ∷ pos 0 ∷ pos 3 ∷ []) ≡ 0 ∷ 0 ∷ 3 ∷ []
misses_of_at_least = refl

-- a sum of 2 is at most 3, and not at least 3
pub at_most_met : first_break (related_program Less 3 4) (point_of (pos 0) (pos 4) (pos 2) (pos 2)) ≡ None
at_most_met = refl

pub at_least_broken : first_break (related_program Greater 3 4) (point_of (pos 0) (pos 4) (pos 2) (pos 2)) ≡ Some
    (LinkRow 1)
at_least_broken = refl

-- an equation keeps its rest, the other rows may change
pub equations_kept : keeps_equations (Equal ∷ Less ∷ Greater ∷ []) (pos 0 ∷ pos 1 ∷ minus 1 ∷ []) ≡ true
equations_kept = refl

pub equation_not_kept : keeps_equations (Less ∷ Equal ∷ []) (pos 0 ∷ pos 1 ∷ []) ≡ false
equation_not_kept = refl

-- three suppliers
abbrev pub suppliers : Program
suppliers = record {
  link = record { cols = 3; rows = unit_vector 3 0 ∷ unit_vector 3 1 ∷ unit_vector 3 2 ∷ [] };
  link_right = pos 8 ∷ pos 8 ∷ pos 8 ∷ [];
  relations = Equal ∷ Equal ∷ Equal ∷ [];
  brick = record { cols = 3; rows = (pos 1 ∷ pos 1 ∷ pos 1 ∷ []) ∷ [] };
  bricks = [];
}

-- a cost by breakpoints
pub on_a_line : map (value (Points (record { at = pos 0; value = pos 0 } ∷ record { at = pos 2; value = pos 2 }
    ∷ record { at = pos 4; value = pos 8 } ∷ []))) (pos 0 ∷ pos 1 ∷ pos 2 ∷ pos 3 ∷ pos 4 ∷ []) ≡ pos 0 ∷ pos 1 ∷ pos 2
    ∷ pos 5 ∷ pos 8 ∷ []
on_a_line = refl
