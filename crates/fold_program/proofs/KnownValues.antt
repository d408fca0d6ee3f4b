-- The definitions at values worked by hand: a program of two bricks with two columns each, one linking row and one
-- brick row, from its parts; and parts with one thing wrong.
use Rattle.std.proofs.Common.{◌≡◌, ◌^◌, length, pos, map, List, [], ◌∷◌, Some, None, refl}
use Rattle.std.specs.Global.{Vec}
use Rattle.lattice_theory.specs.Vectors.{Vector}
use Rattle.lattice_theory.specs.Matrices.{Matrix}
use Rattle.lattice_theory.proofs.KnownValues.{minus, two}
use Rattle.fold_theory.specs.declared.Cost.{Cost}
use Rattle.fold_theory.specs.declared.Cost.TheVariants.{Quadratic}
use Rattle.fold_theory.specs.declared.Relation.TheVariants.{Equal}
use Rattle.fold_theory.specs.Programs.{Program}
use Rattle.fold_theory.proofs.KnownValues.{square, free, the_program}
use Rattle.convex_costs.specs.declared.CostFault.TheVariants.{NotConvex}
use Rattle.fold_program.specs.declared.fault.FileKind.TheVariants as file
use Rattle.fold_program.specs.Files.{suffix_of}
use Rattle.fold_program.specs.declared.parts.Parts.{Parts}
use Rattle.fold_program.specs.Parts.{fold_of}
use Rattle.fold_program.specs.declared.fault.ProgramFault.TheVariants as fault
use Rattle.fold_program.specs.Refusals.{first_misshaped, program_refusal}

abbrev columns : List Vector → Matrix
columns rows = record { cols = 2; rows = rows }

abbrev the_rights : Matrix
the_rights = record { cols = 3; rows = (pos 3 ∷ pos 4 ∷ pos 4 ∷ []) ∷ [] }

-- the parts with these lower and upper bounds and costs
abbrev parts_with : List Vector → List Vector → Vec Cost → Parts
parts_with lower upper costs = record {
  link = columns (two (pos 1) (pos 0) ∷ []);
  brick = columns (two (pos 1) (pos 1) ∷ []);
  lower = columns lower;
  upper = columns upper;
  right = the_rights;
  costs = costs;
}

-- the program of such parts
abbrev program_with : List Vector → List Vector → List Cost → Program
program_with lower upper costs =
    fold_of (columns (two (pos 1) (pos 0) ∷ [])) (columns (two (pos 1) (pos 1) ∷ [])) (columns lower)
    (columns upper) the_rights (Equal ∷ []) costs

abbrev zeros : List Vector
zeros = two (pos 0) (pos 0) ∷ two (pos 0) (pos 0) ∷ []

abbrev fours : List Vector
fours = two (pos 4) (pos 4) ∷ two (pos 4) (pos 4) ∷ []

abbrev the_costs : List Cost
the_costs = square ∷ free ∷ square ∷ free ∷ []

-- a square with a factor below 0
abbrev falling : Cost
falling = Quadratic (minus 1) (pos 0) (pos 0)

-- a magnitude of 2 ^ 120 on the bounds 0 and 2 ^ 30
abbrev largest : Cost
largest = Quadratic (pos (2 ^ 60)) (pos 0) (pos 0)

its_program : program_with zeros fours the_costs ≡ the_program
its_program = refl

fits : (costs : Vec Cost) → length costs.items ≡ 4 → first_misshaped (parts_with zeros fours costs) ≡ None
fits costs four = rw four refl

a_cost_short : (costs : Vec Cost) → length costs.items ≡ 3 →
    first_misshaped (parts_with zeros fours costs) ≡ Some file.Costs
a_cost_short costs three = rw three refl

accepted : program_refusal (program_with zeros fours the_costs) ≡ None
accepted = refl

-- a row of upper bounds is missing
row_short : (costs : Vec Cost) → first_misshaped (parts_with zeros (two (pos 4) (pos 4) ∷ []) costs) ≡ Some file.Upper
row_short costs = refl

-- 3 above 2 in the first column of the second brick; crossed bounds come before costs
crossed : program_refusal
    (program_with (two (pos 0) (pos 0) ∷ two (pos 3) (pos 0) ∷ []) (two (pos 4) (pos 4) ∷ two (pos 2) (pos 4) ∷ [])
    (falling ∷ the_costs)) ≡ Some (fault.CrossedBounds 2 1)
crossed = refl

-- of two bad costs the first counts
bad_cost : program_refusal (program_with zeros fours (square ∷ falling ∷ falling ∷ free ∷ []))
    ≡ Some (fault.Cost 1 2 (NotConvex 0))
bad_cost = refl

-- the largest magnitude once, and twice
one_largest : program_refusal
    (program_with zeros (two (pos (2 ^ 30)) (pos 4) ∷ two (pos 4) (pos 4) ∷ []) (largest ∷ free ∷ free ∷ free ∷ []))
    ≡ None
one_largest = refl

two_largest : program_refusal
    (program_with zeros (two (pos (2 ^ 30)) (pos 4) ∷ two (pos 4) (pos (2 ^ 30)) ∷ [])
    (largest ∷ free ∷ free ∷ largest ∷ [])) ≡ Some fault.CostSumTooLarge
two_largest = refl

-- the last letters of each name
suffixes : map suffix_of
    (file.Link ∷ file.Brick ∷ file.Lower ∷ file.Upper ∷ file.Right ∷ file.Relations ∷ file.Costs ∷ file.Point
    ∷ file.Cert ∷ file.Plain ∷ [])
    ≡ (46 ∷ 108 ∷ 105 ∷ 110 ∷ 107 ∷ 46 ∷ 109 ∷ 97 ∷ 116 ∷ [])
    ∷ (46 ∷ 98 ∷ 114 ∷ 105 ∷ 99 ∷ 107 ∷ 46 ∷ 109 ∷ 97 ∷ 116 ∷ [])
    ∷ (46 ∷ 108 ∷ 98 ∷ []) ∷ (46 ∷ 117 ∷ 98 ∷ []) ∷ (46 ∷ 114 ∷ 104 ∷ 115 ∷ []) ∷ (46 ∷ 114 ∷ 101 ∷ 108 ∷ [])
    ∷ (46 ∷ 99 ∷ 111 ∷ 115 ∷ 116 ∷ []) ∷ (46 ∷ 112 ∷ 116 ∷ []) ∷ (46 ∷ 99 ∷ 101 ∷ 114 ∷ 116 ∷ [])
    ∷ (46 ∷ 109 ∷ 97 ∷ 116 ∷ []) ∷ []
suffixes = refl
