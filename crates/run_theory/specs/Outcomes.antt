-- The outcome of a program: the runs of its bricks, the runs of its phases, the verdict and its certificate.
use Rattle.std.specs.Prelude.{◌≡◌, ℕ, ◌+◌, ◌*◌, ◌<◌, ◌≤◌, ℤ, pos, ◌-ℤ◌, unsigned_abs, true, false, List, [], ◌∷◌, ◌++◌}
use Rattle.std.specs.Prelude.{map, length, take, Option, Some, None, slice_get, All}
use Rattle.fold_theory.specs.declared.Phase.{Phase}
use Rattle.fold_theory.specs.declared.Phase.TheVariants.{Closed, Counted}
use Rattle.fold_theory.specs.declared.Verdict.{Verdict}
use Rattle.fold_theory.specs.declared.Verdict.TheVariants.{Optimal, InfeasibleBrick, InfeasibleLink}
use Rattle.run_theory.specs.declared.Claim.TheVariants as claim
use Rattle.lattice_theory.specs.Lists.{greatest}
use Rattle.lattice_theory.specs.Vectors.{Vector, is_zero}
use Rattle.lattice_theory.specs.Matrices.{Matrix, product}
use Rattle.lattice_theory.specs.Lattices.{IsSlackBasis}
use Rattle.fold_theory.specs.Programs.{Program, Brick, Bricks, IsFeasible, brick_residual, link_rests, link_miss}
use Rattle.fold_theory.specs.Programs.{phase_cost, cost}
use Rattle.fold_theory.specs.Verdicts.{Holds}
use Rattle.run_theory.specs.Links.{Bases, AreBases, generators, fold_complexity}
use Rattle.lattice_theory.specs.SignedSums.{Sum, vectors}
use Rattle.run_theory.specs.BrickSums.{AreBrickSums}
use Rattle.run_theory.specs.Steps.{Move, moved, gain, IsRun}
use Rattle.run_theory.specs.BrickRuns.{BrickMove, IsBrickRun}
use Rattle.run_theory.specs.Walks.{IsPotential}
use Rattle.run_theory.specs.Certificates.{Certificate, FoldPart, Table}

-- a step as it is recorded: the bricks with a nonzero part, numbered from 1, and their entries
pub record Step : Type 0 where
  pub k : ℕ
  pub gain : ℕ
  pub bricks : List ℕ
  pub entries : Vector

abbrev pub nonzero_from : ℕ → Bricks → List ℕ
nonzero_from i [] = []
nonzero_from i (d ∷ h) = elim (is_zero d) [ true ↦ nonzero_from (i + 1) h | false ↦ i ∷ nonzero_from (i + 1) h ]

abbrev pub nonzero_entries : Bricks → Vector
nonzero_entries [] = []
nonzero_entries (d ∷ h) = elim (is_zero d) [ true ↦ nonzero_entries h | false ↦ d ++ nonzero_entries h ]

abbrev pub step_at : Program → Phase → Bricks → Move → Step
step_at p phase x m = record {
  k = m.k;
  gain = unsigned_abs (gain p phase x m.k m.bricks);
  bricks = nonzero_from 1 m.bricks;
  entries = nonzero_entries m.bricks;
}

abbrev pub steps_from : Program → Phase → Bricks → List Move → List Step
steps_from p phase x [] = []
steps_from p phase x (m ∷ ms) = step_at p phase x m ∷ steps_from p phase (moved x m.k m.bricks) ms

-- the greatest absolute entry of w and of A1·w, over the sums w
abbrev pub widest_entry : Program → List Vector → ℕ
widest_entry p zs = greatest (map (λ w. greatest (map unsigned_abs (w ++ product p.link w))) zs)

-- in each K steps the rule gains half of what is left to gain
abbrev pub bound_number : Program → List Vector → ℕ
bound_number p zs = 2 * (length p.bricks * p.brick.cols + length p.link.rows) * widest_entry p zs

-- the run of a phase: its steps, the whole gain and the bound number
pub record RunRecord : Type 0 where
  pub steps : List Step
  pub gain : ℕ
  pub factor : ℕ

pub record IsRecorded (p : Program) (phase : Phase) (zs : List Vector) (x : Bricks) (made : RunRecord) (last : Bricks) :
    Type 0 where
  pub moves : List Move
  pub run : IsRun p phase zs x moves last
  pub steps : made.steps ≡ steps_from p phase x moves
  pub fallen : pos made.gain ≡ (phase_cost p phase x -ℤ phase_cost p phase last)
  pub factor : made.factor ≡ bound_number p zs

-- every brick's run meets its rows, and the joint end is x
abbrev pub AllSettle : Program → List Vector → List Brick → List (List BrickMove) → Bricks → Type 0
AllSettle p basis [] [] [] = Unit {0}
AllSettle p basis (b ∷ bs) (ms ∷ traces) (v ∷ x) =
    IsBrickRun p basis b ms v × (brick_residual p b v ≡ 0) × AllSettle p basis bs traces x
AllSettle p basis bs traces x = ⊥

-- the first brick whose run ends with a residual
pub record FirstStuck (p : Program) (basis : List Vector) (number residual : ℕ) (v : Vector)
    (traces : List (List BrickMove)) : Type 0 where
  pub place : ℕ
  pub numbered : number ≡ place + 1
  pub brick : Brick
  pub there : slice_get p.bricks place ≡ Some brick
  pub earlier : List (List BrickMove)
  pub joint : Bricks
  pub settled : AllSettle p basis (take place p.bricks) earlier joint
  pub last : List BrickMove
  pub run : IsBrickRun p basis brick last v
  pub left : brick_residual p brick v ≡ residual
  pub stuck : 0 < residual
  pub all : traces ≡ earlier ++ last ∷ []

pub record Outcome : Type 0 where
  pub verdict : Verdict
  pub point : Bricks
  pub traces : List (List BrickMove)
  pub counted : Option RunRecord
  pub closed : Option RunRecord

-- phase Counted runs where a linking row is missed
abbrev pub CountedPart : Program → Bases → Bricks → Option RunRecord → Bricks → Type 0
CountedPart p b x None y = (link_miss p (link_rests p x) ≡ 0) × (y ≡ x)
CountedPart p b x (Some made) y =
    (0 < link_miss p (link_rests p x)) × (sums : List Sum) × AreBrickSums p Counted b sums
    × IsRecorded p Counted (vectors sums) x made y

-- phase Closed, from a feasible point
abbrev pub ClosedPart : Program → Bases → Bricks → Option RunRecord → Bricks → Type 0
ClosedPart p b x None y = ⊥
ClosedPart p b x (Some made) y =
    (sums : List Sum) × AreBrickSums p Closed b sums × IsRecorded p Closed (vectors sums) x made y

-- the outcome: the first brick that is stuck, or else the linking rows that cannot be met, or else a best point
abbrev pub IsOutcome : Program → Outcome → Type 0
IsOutcome p o =
    elim o.verdict [
      | InfeasibleBrick number residual ↦
          (basis : List Vector) × (v : Vector) × IsSlackBasis p.brick basis
          × FirstStuck p basis number residual v o.traces
          × (o.point ≡ v ∷ []) × (o.counted ≡ None) × (o.closed ≡ None)
      | InfeasibleLink residual ↦
          (b : Bases) × (x : Bricks) × AreBases p b × AllSettle p b.brick p.bricks o.traces x
          × CountedPart p b x o.counted o.point × (link_miss p (link_rests p o.point) ≡ residual) × (0 < residual)
          × (o.closed ≡ None)
      | Optimal c ↦
          (b : Bases) × (x : Bricks) × (y : Bricks) × AreBases p b × AllSettle p b.brick p.bricks o.traces x
          × CountedPart p b x o.counted y × (link_miss p (link_rests p y) ≡ 0)
          × ClosedPart p b y o.closed o.point × (cost p o.point ≡ c)
    ]

-- the table of the least costs of walks of length 1 from each sum at each layer
pub record ArePotentials (p : Program) (phase : Phase) (zs : List Vector) (x : Bricks) (table : Table) : Type 0 where
  pub width : table.cols ≡ length zs
  pub height : length table.rows ≡ length p.bricks + 1
  pub each_row : All (λ row. length row ≡ length zs) table.rows
  pub cells : (i j : ℕ) (w : Vector) → i ≤ length p.bricks → slice_get zs j ≡ Some w →
      (row : List (Option ℤ)) × (cell : Option ℤ) × (slice_get table.rows i ≡ Some row) × (slice_get row j ≡ Some cell)
      × IsPotential p phase zs x 0 i w cell

-- a sum as a row of the certificate
abbrev pub row_of_sum : Sum → Vector
row_of_sum s = pos s.level ∷ s.vector

-- the part of the certificate about the linking rows
pub record IsFoldPart (p : Program) (phase : Phase) (b : Bases) (x : Bricks) (f : FoldPart) : Type 0 where
  pub links : f.links ≡ record { cols = length (generators p b.brick) + length p.link.rows; rows = b.links }
  pub bound : f.bound ≡ fold_complexity p phase b
  pub sums : List Sum
  pub sums_are : AreBrickSums p phase b sums
  pub rows_are : f.sums ≡ record { cols = 1 + p.brick.cols; rows = map row_of_sum sums }
  pub potentials : ArePotentials p phase (vectors sums) x f.potentials

abbrev pub matrix_of_bricks : Program → List Vector → Matrix
matrix_of_bricks p basis = record { cols = p.brick.cols + length p.brick.rows; rows = basis }

abbrev pub point_matrix : Program → Bricks → Matrix
point_matrix p x = record { cols = p.brick.cols; rows = x }

-- the certificate of this outcome
abbrev pub IsCertificate : Program → Outcome → Certificate → Type 0
IsCertificate p o c =
    (c.point ≡ point_matrix p o.point) × elim o.verdict [
      | InfeasibleBrick number residual ↦
          (basis : List Vector) × IsSlackBasis p.brick basis × (c.bricks ≡ matrix_of_bricks p basis)
          × (c.claim ≡ claim.InfeasibleBrick number) × (c.fold ≡ None)
      | InfeasibleLink residual ↦
          (b : Bases) × (f : FoldPart) × AreBases p b × (c.bricks ≡ matrix_of_bricks p b.brick)
          × (c.claim ≡ claim.InfeasibleLink) × (c.fold ≡ Some f) × IsFoldPart p Counted b o.point f
      | Optimal cost ↦
          (b : Bases) × (f : FoldPart) × AreBases p b × (c.bricks ≡ matrix_of_bricks p b.brick)
          × (c.claim ≡ claim.Optimal) × (c.fold ≡ Some f) × IsFoldPart p Closed b o.point f
    ]

-- the verdict is true of the program; where it is optimal, the outcome's point is feasible and has that cost
abbrev pub HoldsAt : Program → Outcome → Type 0
HoldsAt p o =
    Holds p o.verdict × elim o.verdict [
      | InfeasibleBrick number residual ↦ Unit {0}
      | InfeasibleLink residual ↦ Unit {0}
      | Optimal c ↦ IsFeasible p o.point × (cost p o.point ≡ c)
    ]
