-- When the solver gives up, and for which limit: the first one on the way to the outcome.
use Rattle.std.specs.Prelude.{◌≡◌, ℕ, ◌+◌, ◌*◌, ◌^◌, ◌<◌, ◌≤◌, ℤ, unsigned_abs, List, length, All, slice_get, Some}
use Rattle.std.specs.Prelude.{Option}
use Rattle.fold_theory.specs.declared.Phase.{Phase}
use Rattle.fold_theory.specs.declared.Phase.TheVariants.{Closed, Counted}
use Rattle.run_theory.specs.declared.SolveFault.{SolveFault}
use Rattle.run_theory.specs.declared.SolveFault.TheVariants as fault
use Rattle.lattice_theory.specs.Vectors.{Vector}
use Rattle.lattice_theory.specs.Matrices.{Matrix}
use Rattle.fold_theory.specs.Programs.{Program, Bricks, link_rests, link_miss}
use Rattle.run_theory.specs.Links.{Bases, links_of}
use Rattle.lattice_theory.specs.SignedSums.{Sum}
use Rattle.lattice_theory.specs.BasisLimits.{IsNarrow, ExceedsBasis, IsBasisWithin}
use Rattle.run_theory.specs.BrickSums.{AreBrickSums, ExceedsSums}
use Rattle.run_theory.specs.BrickRuns.{BrickMove}
use Rattle.run_theory.specs.Outcomes.{AllSettle, CountedPart, RunRecord}

-- the most elements of a basis and the most sums that are allowed
pub record Caps : Type 0 where
  pub basis : ℕ
  pub sums : ℕ

-- the first entry of the matrix, row by row, that is past 2 ^ 31 - 1 in absolute value
pub record IsFirstWide (m : Matrix) (row col : ℕ) : Type 0 where
  pub i : ℕ
  pub j : ℕ
  pub numbered : (row ≡ i + 1) × (col ≡ j + 1)
  pub entries : Vector
  pub entry : ℤ
  pub there : (slice_get m.rows i ≡ Some entries) × (slice_get entries j ≡ Some entry)
  pub wide : 2 ^ 31 ≤ unsigned_abs entry
  pub above : (k : ℕ) (v : Vector) → k < i → slice_get m.rows k ≡ Some v → IsNarrow v
  pub before : (k : ℕ) (a : ℤ) → k < j → slice_get entries k ≡ Some a → unsigned_abs a < 2 ^ 31

-- the brick matrix's basis is within the limit, and every brick settles
pub record BrickStageWithin (p : Program) (c : Caps) (basis : List Vector) (x : Bricks) : Type 0 where
  pub within : IsBasisWithin p.brick c.basis basis
  pub traces : List (List BrickMove)
  pub settled : AllSettle p basis p.bricks traces x

-- the link matrix and its basis are within the limits too
pub record LinkStageWithin (p : Program) (c : Caps) (b : Bases) (x : Bricks) : Type 0 where
  pub bricks : BrickStageWithin p c b.brick x
  pub entries : All IsNarrow (links_of p b.brick).rows
  pub basis : IsBasisWithin (links_of p b.brick) c.basis b.links

-- the phase begins: Counted where a linking row is missed, Closed where none is any more
abbrev pub PhaseBegins : Program → Phase → Bases → Bricks → Type 0
PhaseBegins p Counted b x = 0 < link_miss p (link_rests p x)
PhaseBegins p Closed b x =
    (made : Option RunRecord) × (y : Bricks) × CountedPart p b x made y × (link_miss p (link_rests p y) ≡ 0)

-- the number of sums, and the cells of the table of all layers
abbrev pub FitsTable : Program → List Sum → Type 0
FitsTable p sums = (length p.bricks + 1) * length sums ≤ 2 ^ 20

-- the sums of the phase are within the limit
pub record SumStageWithin (p : Program) (c : Caps) (phase : Phase) (b : Bases) (sums : List Sum) : Type 0 where
  pub all : AreBrickSums p phase b sums
  pub few : length sums ≤ c.sums

-- phase Counted, where it begins, is within its limits
abbrev pub CountedStageWithin : Program → Caps → Phase → Bases → Bricks → Type 0
CountedStageWithin p c Counted b x = Unit {0}
CountedStageWithin p c Closed b x =
    PhaseBegins p Counted b x → (sums : List Sum) × SumStageWithin p c Counted b sums × FitsTable p sums

-- the limit that is the first to be passed
abbrev pub IsLimit : Program → Caps → SolveFault → Type 0
IsLimit p c fault.BrickBasis = ExceedsBasis p.brick c.basis
IsLimit p c (fault.LinkEntry row col) =
    (basis : List Vector) × (x : Bricks) × BrickStageWithin p c basis x × IsFirstWide (links_of p basis) row col
IsLimit p c fault.LinkBasis =
    (basis : List Vector) × (x : Bricks) × BrickStageWithin p c basis x × All IsNarrow (links_of p basis).rows
    × ExceedsBasis (links_of p basis) c.basis
IsLimit p c (fault.Sums phase) =
    (b : Bases) × (x : Bricks) × LinkStageWithin p c b x × PhaseBegins p phase b x × CountedStageWithin p c phase b x
    × ExceedsSums p phase b c.sums
IsLimit p c (fault.Table phase) =
    (b : Bases) × (x : Bricks) × (sums : List Sum) × LinkStageWithin p c b x × PhaseBegins p phase b x
    × CountedStageWithin p c phase b x
    × SumStageWithin p c phase b sums × (2 ^ 20 < (length p.bricks + 1) * length sums)
IsLimit p c fault.Memory = ⊥
