-- Why parts make no program: the first part whose shape is wrong, and else the first refusal of the program as a whole.
use Rattle.std.specs.Prelude.{ℕ, suc, ◌+◌, ◌*◌, ◌^◌, int_lt, nat_eq, nat_lt, nat_le, Bool, ◌&&◌, not, List, [], ◌∷◌}
use Rattle.std.specs.Prelude.{◌++◌, length, sum_by, cond, Option, Some, None}
use Rattle.lattice_theory.specs.Vectors.{Vector}
use Rattle.lattice_theory.specs.Matrices.{Matrix}
use Rattle.fold_theory.specs.declared.Cost.{Cost}
use Rattle.fold_theory.specs.Costs.{magnitude}
use Rattle.fold_theory.specs.Programs.{Program, Brick}
use Rattle.convex_costs.specs.declared.CostFault.{CostFault}
use Rattle.convex_costs.specs.Faults.{cost_fault}
use Rattle.fold_program.specs.declared.fault.FileKind.{FileKind}
use Rattle.fold_program.specs.declared.fault.FileKind.TheVariants as file
use Rattle.fold_program.specs.declared.fault.ProgramFault.{ProgramFault}
use Rattle.fold_program.specs.declared.fault.ProgramFault.TheVariants as fault
use Rattle.fold_program.specs.declared.parts.Parts.{Parts}

-- a number of rows and of columns in these ranges
abbrev pub in_shape : ℕ → ℕ → ℕ → ℕ → Matrix → Bool
in_shape rows_from rows_to cols_from cols_to m =
    nat_le rows_from (length m.rows) && nat_le (length m.rows) rows_to && nat_le cols_from m.cols && nat_le m.cols
    cols_to

-- the first part whose shape is wrong, each tested against those before it
abbrev pub first_misshaped : Parts → Option FileKind
first_misshaped p =
    let t = p.link.cols in
    let n = length p.lower.rows in
    let wide = length p.link.rows + n * length p.brick.rows in
    cond (not (in_shape 0 16 1 32 p.link)) (Some file.Link)
    (cond (not (in_shape 0 16 t t p.brick)) (Some file.Brick)
    (cond (not (in_shape 1 10000 t t p.lower)) (Some file.Lower)
    (cond (not (in_shape n n t t p.upper)) (Some file.Upper)
    (cond (not (in_shape 1 1 wide wide p.right)) (Some file.Right)
    (cond (nat_eq (length p.costs.items) (n * t)) None (Some file.Costs))))))

-- the first of what is refused; bricks and columns are numbered from 1
abbrev pub head_of : List ProgramFault → Option ProgramFault
head_of [] = None
head_of (r ∷ rs) = Some r

-- the columns of brick i, from number j on, whose lower bound is above the upper one
abbrev pub crossed_in : ℕ → ℕ → Vector → Vector → List ProgramFault
crossed_in i j [] upper = []
crossed_in i j (l ∷ lower) [] = []
crossed_in i j (l ∷ lower) (u ∷ upper) =
    cond (int_lt u l) (fault.CrossedBounds i j ∷ []) [] ++ crossed_in i (suc j) lower upper

abbrev pub refusal_of : ℕ → ℕ → Option CostFault → List ProgramFault
refusal_of i j None = []
refusal_of i j (Some f) = fault.Cost i j f ∷ []

-- the costs of brick i, from column number j on, that are refused over their bounds
abbrev pub cost_faults_in : ℕ → ℕ → List Cost → Vector → Vector → List ProgramFault
cost_faults_in i j [] lower upper = []
cost_faults_in i j (c ∷ cs) [] upper = []
cost_faults_in i j (c ∷ cs) (l ∷ lower) [] = []
cost_faults_in i j (c ∷ cs) (l ∷ lower) (u ∷ upper) =
    refusal_of i j (cost_fault c l u) ++ cost_faults_in i (suc j) cs lower upper

-- f of each brick and its number, from number i on
abbrev pub of_each : (ℕ → Brick → List ProgramFault) → ℕ → List Brick → List ProgramFault
of_each f i [] = []
of_each f i (b ∷ bs) = f i b ++ of_each f (suc i) bs

-- the magnitude of each cost over its bounds
abbrev pub magnitudes : List Cost → Vector → Vector → List ℕ
magnitudes [] lower upper = []
magnitudes (c ∷ cs) [] upper = []
magnitudes (c ∷ cs) (l ∷ lower) [] = []
magnitudes (c ∷ cs) (l ∷ lower) (u ∷ upper) = magnitude c l u ∷ magnitudes cs lower upper

abbrev pub brick_magnitude : Brick → ℕ
brick_magnitude b = sum_by (λ m. m) (magnitudes b.costs b.lower b.upper)

abbrev pub total_magnitude : Program → ℕ
total_magnitude p = sum_by brick_magnitude p.bricks

-- all that is refused: crossed bounds, then costs, then their sum
abbrev pub refusals : Program → List ProgramFault
refusals p =
    of_each (λ i b. crossed_in i 1 b.lower b.upper) 1 p.bricks
    ++ of_each (λ i b. cost_faults_in i 1 b.costs b.lower b.upper) 1 p.bricks
    ++ cond (nat_lt (2 ^ 120) (total_magnitude p)) (fault.CostSumTooLarge ∷ []) []

-- the first refusal of the program
abbrev pub program_refusal : Program → Option ProgramFault
program_refusal p = head_of (refusals p)
