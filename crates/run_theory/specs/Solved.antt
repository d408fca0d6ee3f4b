-- What was solved, as contracts see it, and the positive side of the limits.
use Rattle.std.specs.Prelude.{List, Option, Some, None}
use Rattle.fold_theory.specs.declared.Phase.TheVariants.{Closed, Counted}
use Rattle.fold_theory.specs.declared.Verdict.{Verdict}
use Rattle.fold_theory.specs.declared.Verdict.TheVariants.{Optimal, InfeasibleBrick, InfeasibleLink}
use Rattle.lattice_theory.specs.Vectors.{Vector}
use Rattle.lattice_theory.specs.SignedSums.{Sum}
use Rattle.lattice_theory.specs.BasisLimits.{IsBasisWithin}
use Rattle.fold_theory.specs.Programs.{Program, Bricks}
use Rattle.run_theory.specs.Links.{Bases}
use Rattle.run_theory.specs.BrickRuns.{BrickMove}
use Rattle.run_theory.specs.Outcomes.{Outcome, RunRecord}
use Rattle.run_theory.specs.Certificates.{Certificate}
use Rattle.run_theory.specs.Limits.{Caps, LinkStageWithin, SumStageWithin, CountedStageWithin, FitsTable}

pub record SolvedValue : Type 0 where
  pub verdict : Verdict
  pub point : Option Bricks
  pub traces : List (List BrickMove)
  pub counted : Option RunRecord
  pub closed : Option RunRecord
  pub certificate : Certificate

-- the point is there exactly where the verdict is optimal
abbrev pub point_if_optimal : Verdict → Bricks → Option Bricks
point_if_optimal (Optimal c) x = Some x
point_if_optimal (InfeasibleBrick number residual) x = None
point_if_optimal (InfeasibleLink residual) x = None

-- what is answered for an outcome with its certificate
abbrev pub solved_value : Outcome → Certificate → SolvedValue
solved_value o c = record {
  verdict = o.verdict;
  point = point_if_optimal o.verdict o.point;
  traces = o.traces;
  counted = o.counted;
  closed = o.closed;
  certificate = c;
}

-- all that an outcome with this verdict reaches is within its limits
abbrev pub IsWithinCaps : Program → Caps → Verdict → Type 0
IsWithinCaps p c (InfeasibleBrick number residual) = (basis : List Vector) × IsBasisWithin p.brick c.basis basis
IsWithinCaps p c (InfeasibleLink residual) =
    (b : Bases) × (x : Bricks) × (sums : List Sum) × LinkStageWithin p c b x
    × SumStageWithin p c Counted b sums × FitsTable p sums
IsWithinCaps p c (Optimal cost) =
    (b : Bases) × (x : Bricks) × (sums : List Sum) × LinkStageWithin p c b x × CountedStageWithin p c Closed b x
    × SumStageWithin p c Closed b sums × FitsTable p sums
