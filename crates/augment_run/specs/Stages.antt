-- What the stages of a solve have reached.
use Rattle.std.specs.Prelude.{◌≡◌, ◌^◌, ◌<◌, ◌≤◌, List, All, Option}
use Rattle.lattice_theory.specs.BasisLimits.{IsNarrow}
use Rattle.lattice_theory.specs.SignedSums.{vectors}
use Rattle.fold_theory.specs.declared.Phase.{Phase}
use Rattle.fold_theory.specs.declared.Phase.TheVariants.{Closed, Counted}
use Rattle.fold_theory.specs.Programs.{Program, Bricks, link_rests, link_miss}
use Rattle.fold_program.specs.Points.{HasPointShape}
use Rattle.run_theory.specs.Links.{Bases, generators, links_of, fold_complexity}
use Rattle.run_theory.specs.BrickRuns.{BrickMove}
use Rattle.run_theory.specs.Outcomes.{RunRecord, AllSettle, CountedPart, IsRecorded}
use Rattle.run_theory.specs.Starts.{IsStart}
use Rattle.run_theory.specs.Limits.{LinkStageWithin, PhaseBegins, CountedStageWithin, SumStageWithin, FitsTable}
use Rattle.augment_run.specs.declared.settings.Settings.{Settings}
use Rattle.augment_run.specs.Solving.{caps_of}
use Rattle.augment_run.specs.declared.solving.plans.Plan.{Plan}
use Rattle.phase_one.specs.Started.{lists}
use Rattle.augment_run.specs.declared.solving.phases.Ended.{Ended}
use Rattle.augment_run.specs.declared.solving.endings.Met.{Met}

-- the limits that a solve may be given
pub record AreAllowed (s : Settings) : Type 0 where
  pub workers : 1 ≤ s.workers
  pub few_workers : s.workers ≤ 16
  pub basis : 1 ≤ s.max_basis
  pub small_basis : s.max_basis ≤ 2000
  pub sums : 1 ≤ s.max_sums
  pub few_sums : s.max_sums ≤ 20000

-- the two slack bases of a plan
abbrev pub bases_of : Plan → Bases
bases_of plan = record { brick = plan.bricks.elements; links = plan.basis.elements }

-- the tables are those of the program, and within the limits; the bricks settle at x
pub record IsPlan (p : Program) (x : Bricks) (plan : Plan) : Type 0 where
  pub limits : AreAllowed plan.settings
  pub stage : LinkStageWithin p (caps_of plan.settings) (bases_of plan) x
  pub of_bricks : plan.bricks.matrix ≡ p.brick
  pub kernel : plan.kernel ≡ record { cols = p.brick.cols; rows = generators p plan.bricks.elements }
  pub narrow : All IsNarrow plan.kernel.rows
  pub links : plan.links ≡ links_of p plan.bricks.elements
  pub of_links : plan.basis.matrix ≡ links_of p plan.bricks.elements

-- the phase begins, after the bricks have settled at x
pub record IsBegun (p : Program) (phase : Phase) (plan : Plan) (x : Bricks) : Type 0 where
  pub tables : IsPlan p x plan
  pub begins : PhaseBegins p phase (bases_of plan) x
  pub before : CountedStageWithin p (caps_of plan.settings) phase (bases_of plan) x

-- the run of the phase from x has ended, within the limits
pub record IsEnded (p : Program) (phase : Phase) (plan : Plan) (x : Bricks) (e : Ended) : Type 0 where
  pub sums : SumStageWithin p (caps_of plan.settings) phase (bases_of plan) e.sums
  pub table : FitsTable p e.sums
  pub bound : e.bound ≡ fold_complexity p phase (bases_of plan)
  pub low : e.bound < 2 ^ 43
  pub run : IsRecorded p phase (vectors e.sums) x e.end.made e.end.point
  pub start : IsStart p phase e.end.point

-- the bricks settle at x by these steps, which is a start of phase Counted
pub record IsSettled (p : Program) (plan : Plan) (traces : List (List BrickMove)) (x : Bricks) : Type 0 where
  pub tables : IsPlan p x plan
  pub all : AllSettle p plan.bricks.elements p.bricks traces x
  pub start : IsStart p Counted x
  pub shape : HasPointShape p x

-- phase Counted has run from where the bricks have settled by these steps, and so ended
pub record IsMissed (p : Program) (plan : Plan) (traces : List (List BrickMove)) (e : Ended) : Type 0 where
  pub settled : Bricks
  pub stage : IsSettled p plan traces settled
  pub misses : 0 < link_miss p (link_rests p settled)
  pub ended : IsEnded p Counted plan settled e

-- the linking rows are met at y: at once, or after this run of phase Counted, within the limits
pub record AreMetAt (p : Program) (plan : Plan) (traces : List (List BrickMove)) (made : Option RunRecord)
    (y : Bricks) : Type 0 where
  pub settled : Bricks
  pub stage : IsSettled p plan traces settled
  pub counted : CountedPart p (bases_of plan) settled made y
  pub met : link_miss p (link_rests p y) ≡ 0
  pub within : CountedStageWithin p (caps_of plan.settings) Closed (bases_of plan) settled
  pub start : IsStart p Closed y

abbrev pub IsMet : Program → Plan → Met → Type 0
IsMet p plan m = AreMetAt p plan (lists m.traces.items) m.counted m.point

-- phase Closed has run from such a point, and so ended
pub record IsClosed (p : Program) (plan : Plan) (traces : List (List BrickMove)) (made : Option RunRecord)
    (e : Ended) : Type 0 where
  pub point : Bricks
  pub met : AreMetAt p plan traces made point
  pub ended : IsEnded p Closed plan point e
