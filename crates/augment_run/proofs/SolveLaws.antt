-- The ends of a solve are outcomes, and their certificates are those of these outcomes.
use Rattle.std.proofs.Common.{◌≡◌, ℕ, ◌<◌, List, [], ◌∷◌, refl, arith, sym, subst, Some, None, Option}
use Rattle.lattice_theory.specs.Vectors.{Vector}
use Rattle.lattice_theory.specs.BasisLimits.{IsBasisWithin}
use Rattle.lattice_theory.specs.SignedSums.{Sum, vectors}
use Rattle.fold_theory.specs.declared.Phase.{Phase}
use Rattle.fold_theory.specs.declared.Phase.TheVariants.{Closed, Counted}
use Rattle.fold_theory.specs.declared.Verdict.TheVariants.{Optimal, InfeasibleBrick, InfeasibleLink}
use Rattle.fold_theory.specs.Programs.{Program, Bricks, IsProgram, cost, link_miss, link_rests}
use Rattle.run_theory.specs.declared.Claim.TheVariants as claim
use Rattle.run_theory.specs.Links.{Bases, AreBases}
use Rattle.run_theory.specs.BrickRuns.{BrickMove}
use Rattle.run_theory.specs.Starts.{IsStart}
use Rattle.run_theory.specs.Outcomes.{Outcome, RunRecord, IsOutcome, IsCertificate, IsRecorded, FirstStuck}
use Rattle.run_theory.specs.Limits.{Caps, SumStageWithin}
use Rattle.run_theory.specs.Solved.{SolvedValue, solved_value, IsWithinCaps}
use Rattle.run_laws.proofs.TrueOutcomes.{outcome_holds}
use Rattle.run_laws.proofs.PhaseRuns.{run_best}
use Rattle.outcome_laws.proofs.OneLimit.{within_excludes}
use Rattle.certificate_laws.proofs.Accepted.{outcome_is_accepted}
use Rattle.augment_run.specs.declared.solving.plans.Plan.{Plan}
use Rattle.augment_run.specs.declared.solving.phases.Ended.{Ended}
use Rattle.augment_run.specs.Solving.{IsSolved, caps_of}
use Rattle.augment_run.specs.Stages.{bases_of, IsPlan, IsBegun, IsSettled, IsMissed, AreMetAt, IsClosed}
use Rattle.augment_run.specs.Certifying.{stuck_certificate, IsOnAll}

-- what is answered for an outcome that is reached within the limits
pub solved_by : (p : Program) (c : Caps) (o : Outcome) (v : SolvedValue) → IsProgram p → IsOutcome p o →
    v ≡ solved_value o v.certificate → IsCertificate p o v.certificate → IsWithinCaps p c o.verdict → IsSolved p c v
solved_by p c o v program is value certificate reached = record {
  outcome = o;
  is = is;
  value = value;
  certificate = certificate;
  reached = reached;
  within = within_excludes p c o is reached;
  accepted = outcome_is_accepted p o v.certificate program is certificate;
  holds = outcome_holds p o program is;
}

-- where the first stuck brick was found
pub solved_stuck : (p : Program) (c : Caps) (basis : List Vector) (number residual : ℕ) (x : Vector)
    (traces : List (List BrickMove)) (v : SolvedValue) →
    IsProgram p → IsBasisWithin p.brick c.basis basis → FirstStuck p basis number residual x traces →
    v ≡ record {
      verdict = InfeasibleBrick number residual;
      point = None;
      traces = traces;
      counted = None;
      closed = None;
      certificate = stuck_certificate p basis number x;
    } → IsSolved p c v
solved_stuck p c basis number residual x traces v program within first is =
    let o : Outcome =
    record {
      verdict = InfeasibleBrick number residual;
      point = x ∷ [];
      traces = traces;
      counted = None;
      closed = None;
    } in
    subst (IsSolved p c) (sym is) (
    solved_by p c o (solved_value o (stuck_certificate p basis number x)) program
    (basis, x, within.slack, first, refl, refl, refl) refl
    (refl, (basis, within.slack, refl, refl, refl)) (basis, within)
    )

module _ (p : Program) (program : IsProgram p) (plan : Plan) where
  abbrev b : Bases
  b = bases_of plan

  abbrev caps : Caps
  caps = caps_of plan.settings

  bases : (x : Bricks) → IsPlan p x plan → AreBases p b
  bases x is = record { brick = is.stage.bricks.within.slack; links = is.stage.basis.slack }

  -- where phase Counted ended and a linking row is missed
  pub solved_missed : (traces : List (List BrickMove)) (e : Ended) (residual : ℕ) (v : SolvedValue) →
      IsMissed p plan traces e →
      residual ≡ link_miss p (link_rests p e.end.point) → 0 < residual →
      IsOnAll p Counted b claim.InfeasibleLink e.end.point v.certificate →
      v ≡ record {
        verdict = InfeasibleLink residual;
        point = None;
        traces = traces;
        counted = Some e.end.made;
        closed = None;
        certificate = v.certificate;
      } → IsSolved p caps v
  solved_missed traces e residual v missed miss some on is =
      let x = missed.settled in
      let areb = bases x missed.stage.tables in
      let o : Outcome =
      record {
        verdict = InfeasibleLink residual;
        point = e.end.point;
        traces = traces;
        counted = Some e.end.made;
        closed = None;
      } in
      solved_by p caps o v program (
        b,
        x,
        areb,
        missed.stage.all,
        (missed.misses, e.sums, missed.ended.sums.all, missed.ended.run),
        sym miss,
        some,
        refl,
      ) is
      (on.point_is, (b, on.part, areb, on.bricks_are, on.claim_is, on.there, on.fold_part))
      (b, x, e.sums, missed.stage.tables.stage, missed.ended.sums, missed.ended.table)

  -- where phase Closed ended
  pub solved_closed : (traces : List (List BrickMove)) (made : Option RunRecord) (e : Ended) (v : SolvedValue) →
      IsClosed p plan traces made e →
      IsOnAll p Closed b claim.Optimal e.end.point v.certificate →
      v ≡ record {
        verdict = Optimal (cost p e.end.point);
        point = Some e.end.point;
        traces = traces;
        counted = made;
        closed = Some e.end.made;
        certificate = v.certificate;
      } → IsSolved p caps v
  solved_closed traces made e v closed on is =
      let met = closed.met in
      let x = met.settled in
      let areb = bases x met.stage.tables in
      let o : Outcome = record {
        verdict = Optimal (cost p e.end.point);
        point = e.end.point;
        traces = traces;
        counted = made;
        closed = Some e.end.made;
      } in
      solved_by p caps o v program (
        b,
        x,
        closed.point,
        areb,
        met.stage.all,
        met.counted,
        met.met,
        (e.sums, closed.ended.sums.all, closed.ended.run),
        refl,
      ) is
      (on.point_is, (b, on.part, areb, on.bricks_are, on.claim_is, on.there, on.fold_part))
      (b, x, e.sums, met.stage.tables.stage, met.within, closed.ended.sums, closed.ended.table)

  -- ---- between the phases

  -- the linking rows are met where the bricks settle
  pub met_at_once : (traces : List (List BrickMove)) (x : Bricks) → IsSettled p plan traces x →
      link_miss p (link_rests p x) ≡ 0 →
      AreMetAt p plan traces None x
  met_at_once traces x is met = record {
    settled = x;
    stage = is;
    counted = (met, refl);
    met = met;
    within = λ misses. absurd (omega (arith, misses, met));
    start = record { within = is.start.within; brick_rows = is.start.brick_rows; end = met };
  }

  -- they are met where phase Counted ends
  pub met_after : (traces : List (List BrickMove)) (e : Ended) → IsMissed p plan traces e →
      link_miss p (link_rests p e.end.point) ≡ 0 →
      AreMetAt p plan traces (Some e.end.made) e.end.point
  met_after traces e missed met = record {
    settled = missed.settled;
    stage = missed.stage;
    counted = (missed.misses, e.sums, missed.ended.sums.all, missed.ended.run);
    met = met;
    within = λ misses. (e.sums, missed.ended.sums, missed.ended.table);
    start = record { within = missed.ended.start.within; brick_rows = missed.ended.start.brick_rows; end = met };
  }

  -- a run ends where it may start
  pub run_end_starts : (phase : Phase) (sums : List Sum) (x y : Bricks) (made : RunRecord) (settled : Bricks) →
      IsPlan p settled plan →
      SumStageWithin p caps phase b sums → IsStart p phase x → IsRecorded p phase (vectors sums) x made y →
      IsStart p phase y
  run_end_starts phase sums x y made settled is within start ran =
      (run_best p phase b sums ran.moves x y program (bases settled is) within.all start ran.run).start

-- ---- where the phases begin

pub begun_counted : (p : Program) (plan : Plan) (traces : List (List BrickMove)) (x : Bricks) →
    IsSettled p plan traces x →
    0 < link_miss p (link_rests p x) → IsBegun p Counted plan x
begun_counted p plan traces x is misses = record { tables = is.tables; begins = misses; before = tt }

pub begun_closed : (p : Program) (plan : Plan) (traces : List (List BrickMove)) (made : Option RunRecord) (y : Bricks) →
    (met : AreMetAt p plan traces made y) → IsBegun p Closed plan met.settled
begun_closed p plan traces made y met =
    record { tables = met.stage.tables; begins = (made, y, met.counted, met.met); before = met.within }
