-- The certificate of an outcome breaks no rule.
use Rattle.std.proofs.Common.{◌≡◌, ℕ, ◌<◌, nat_lt, ℤ, true, List, [], ◌∷◌, length, Option, Some, None, refl, ap, arith}
use Rattle.std.proofs.Common.{sym, ◌∙◌, subst}
use Rattle.std.specs.List.{AllByRecursion}
use Rattle.fold_theory.specs.declared.Phase.{Phase}
use Rattle.fold_theory.specs.declared.Phase.TheVariants.{Closed, Counted}
use Rattle.run_theory.specs.declared.Claim.{Claim}
use Rattle.run_theory.specs.declared.Claim.TheVariants as claim
use Rattle.fold_theory.specs.declared.Verdict.{Verdict}
use Rattle.fold_theory.specs.declared.Verdict.TheVariants.{Optimal, InfeasibleBrick, InfeasibleLink}
use Rattle.lattice_theory.specs.SignedSums.{Sum, vectors}
use Rattle.lattice_laws.proofs.SlackBases.{slack_basis_unique}
use Rattle.lattice_laws.proofs.Tests.{nat_lt_of}
use Rattle.fold_theory.specs.Programs.{Program, Bricks, IsBrick, IsProgram, link_rests, link_miss}
use Rattle.run_theory.specs.Links.{Bases, AreBases, fold_complexity}
use Rattle.run_theory.specs.BrickSums.{AreBrickSums}
use Rattle.run_theory.specs.BrickRuns.{BrickMove}
use Rattle.run_theory.specs.Certificates.{Certificate, FoldPart}
use Rattle.run_theory.specs.Outcomes.{RunRecord, IsRecorded, AllSettle, CountedPart, ClosedPart, Outcome, IsOutcome}
use Rattle.run_theory.specs.Outcomes.{IsCertificate, IsFoldPart, matrix_of_bricks, point_matrix}
use Rattle.run_theory.specs.Checker.{fold_rules, first_failing, Accept}
use Rattle.piece_laws.proofs.Starts.{bricks_of}
use Rattle.certificate_laws.proofs.StuckBricks.{stuck_certificate, first_stuck_accepted}
use Rattle.outcome_laws.proofs.OneOutcome.{bases_unique, brick_sums_unique}
use Rattle.certificate_laws.proofs.BrickSums.{listed_still}
use Rattle.certificate_laws.proofs.PhaseRuns.{settled, IsMet, IsDone, run_done}
use Rattle.certificate_laws.proofs.FoldRules.{fold_part, fold_certificate, fold_rules_hold}

-- the outcome with this verdict
abbrev judged : Outcome → Verdict → Outcome
judged o v = record { verdict = v; point = o.point; traces = o.traces; counted = o.counted; closed = o.closed }

-- the certificate of a stuck brick
brick_accepted : (p : Program) (o : Outcome) (c : Certificate) (number residual : ℕ) → IsProgram p →
    IsOutcome p (judged o (InfeasibleBrick number residual)) →
    IsCertificate p (judged o (InfeasibleBrick number residual)) c → Accept p c
brick_accepted p o c number residual program (basis, v, slack, first, point, counted, closed)
    (at, (listed, unique, bricks, claims, fold)) =
    let same : listed ≡ basis = slack_basis_unique p.brick listed basis unique slack in
    let point_is : c.point ≡ point_matrix p (v ∷ []) = at ∙ ap (point_matrix p) point in
    let bricks_are : c.bricks ≡ matrix_of_bricks p basis = bricks ∙ ap (matrix_of_bricks p) same in
    let whole : stuck_certificate p number basis v ≡ c =
    λ i. record {
      claim = sym claims i;
      point = sym point_is i;
      bricks = sym bricks_are i;
      fold = sym fold i;
    } in
    subst (Accept p) whole (first_stuck_accepted p basis number v program slack residual o.traces first)

pub stuck_is_accepted : (p : Program) (o : Outcome) (c : Certificate) (number residual : ℕ) → IsProgram p →
    o.verdict ≡ InfeasibleBrick number residual → IsOutcome p o → IsCertificate p o c → Accept p c
stuck_is_accepted p o c number residual program verdict outcome certificate =
    brick_accepted p o c number residual program
    (subst (λ k. IsOutcome p (judged o k)) verdict outcome)
    (subst (λ k. IsCertificate p (judged o k) c) verdict certificate)

-- ---- the claims on all bricks

module _ (p : Program) (program : IsProgram p) where
  abbrev s : ℕ
  s = length p.brick.rows

  is : AllByRecursion (IsBrick p.brick.cols s) p.bricks
  is = bricks_of p program

  -- the end of a run over the sums of a phase
  run_end : (phase : Phase) (b : Bases) (sums : List Sum) (x : Bricks) (made : RunRecord) (last : Bricks) →
      AreBases p b → AreBrickSums p phase b sums → IsMet p phase x → IsRecorded p phase (vectors sums) x made last →
      IsDone p phase (vectors sums) last
  run_end phase b sums x made last bases all met recorded =
      run_done p phase s is (vectors sums)
      (listed_still p.brick b.brick bases.brick (fold_complexity p phase b) sums all)
      x recorded.moves last met recorded.run

  settled_met : (b : Bases) (traces : List (List BrickMove)) (x : Bricks) → AllSettle p b.brick p.bricks traces x →
      IsMet p Counted x
  settled_met b traces x all =
      let r = settled p p.brick.cols s b.brick p.bricks traces x is all in
      record { within = r.within; rows = r.rows; ends = tt }

  -- where the linking rows are met
  closed_met : (x : Bricks) → IsMet p Counted x → link_miss p (link_rests p x) ≡ 0 → IsMet p Closed x
  closed_met x met none = record { within = met.within; rows = met.rows; ends = none }

  -- the counted part of a run
  counted_met : (b : Bases) (x : Bricks) (o : Option RunRecord) (y : Bricks) → AreBases p b → IsMet p Counted x →
      CountedPart p b x o y → IsMet p Counted y
  counted_met b x None y bases met (none, same) = subst (IsMet p Counted) (sym same) met
  counted_met b x (Some made) y bases met (above, sums, all, recorded) =
      (run_end Counted b sums x made y bases all met recorded).met

  -- the same over the sums that a certificate lists
  record Finished (phase : Phase) (b : Bases) (x : Bricks) : Type 0 where
    sums : List Sum
    all : AreBrickSums p phase b sums
    done : IsDone p phase (vectors sums) x

  over : (phase : Phase) (b : Bases) (x : Bricks) → Finished phase b x → (sums : List Sum) →
      AreBrickSums p phase b sums → IsDone p phase (vectors sums) x
  over phase b x finished sums all =
      subst (λ ss. IsDone p phase (vectors ss) x)
      (brick_sums_unique p phase b finished.sums sums finished.all all) finished.done

  link_finished : (b : Bases) (x : Bricks) (o : Option RunRecord) (y : Bricks) → AreBases p b → IsMet p Counted x →
      CountedPart p b x o y → 0 < link_miss p (link_rests p y) → Finished Counted b y
  link_finished b x None y bases met (none, same) misses =
      absurd (omega (arith, misses, none, ap (λ z. link_miss p (link_rests p z)) same))
  link_finished b x (Some made) y bases met (above, sums, all, recorded) misses =
      record { sums = sums; all = all; done = run_end Counted b sums x made y bases all met recorded }

  closed_finished : (b : Bases) (x : Bricks) (o : Option RunRecord) (y : Bricks) → AreBases p b → IsMet p Closed x →
      ClosedPart p b x o y → Finished Closed b y
  closed_finished b x None y bases met part = absurd part
  closed_finished b x (Some made) y bases met (sums, all, recorded) =
      record { sums = sums; all = all; done = run_end Closed b sums x made y bases all met recorded }

  -- the certificate of a point at which a phase is finished
  fold_accepted : (phase : Phase) (k : Claim) (b : Bases) (x : Bricks) (f : FoldPart) → AreBases p b →
      Finished phase b x → IsFoldPart p phase b x f →
      elim phase [ Closed ↦ true | Counted ↦ nat_lt 0 (link_miss p (link_rests p x)) ] ≡ true →
      first_failing (fold_rules p phase (fold_certificate p k b x f) f) ≡ None
  fold_accepted phase k b x f bases finished part misses =
      let whole : fold_part p phase b part.sums f.potentials ≡ f =
      λ i. record {
        links = sym part.links i;
        bound = sym part.bound i;
        sums = sym part.rows_are i;
        potentials = f.potentials;
      } in
      subst (λ g. first_failing (fold_rules p phase (fold_certificate p k b x g) g) ≡ None) whole
      (fold_rules_hold p phase k b x part.sums f.potentials program bases part.sums_are part.potentials
      (over phase b x finished part.sums part.sums_are) misses)

  -- the certificate with these parts
  fold_certificate_is : (k : Claim) (b : Bases) (x : Bricks) (f : FoldPart) (c : Certificate) →
      c.point ≡ point_matrix p x → c.bricks ≡ matrix_of_bricks p b.brick → c.claim ≡ k → c.fold ≡ Some f →
      fold_certificate p k b x f ≡ c
  fold_certificate_is k b x f c point bricks claims fold =
      λ i. record { claim = sym claims i; point = sym point i; bricks = sym bricks i; fold = sym fold i }

  link_accepted : (o : Outcome) (c : Certificate) (residual : ℕ) → IsOutcome p (judged o (InfeasibleLink residual)) →
      IsCertificate p (judged o (InfeasibleLink residual)) c → Accept p c
  link_accepted o c residual (b, x, bases, settle, counted, left, above, closed)
      (at, (listed, f, same, bricks, claims, fold, part)) =
      let misses : 0 < link_miss p (link_rests p o.point) = omega (arith, left, above) in
      let finished = link_finished b x o.counted o.point bases (settled_met b o.traces x settle) counted misses in
      let here = subst (λ a. Finished Counted a o.point) (bases_unique p b listed bases same) finished in
      subst (Accept p) (fold_certificate_is claim.InfeasibleLink listed o.point f c at bricks claims fold)
      (fold_accepted Counted claim.InfeasibleLink listed o.point f same here part
      (nat_lt_of 0 (link_miss p (link_rests p o.point)) misses))

  optimum_accepted : (o : Outcome) (c : Certificate) (least : ℤ) → IsOutcome p (judged o (Optimal least)) →
      IsCertificate p (judged o (Optimal least)) c → Accept p c
  optimum_accepted o c least (b, x, y, bases, settle, counted, none, closed, costs)
      (at, (listed, f, same, bricks, claims, fold, part)) =
      let met = counted_met b x o.counted y bases (settled_met b o.traces x settle) counted in
      let finished = closed_finished b y o.closed o.point bases (closed_met y met none) closed in
      let here = subst (λ a. Finished Closed a o.point) (bases_unique p b listed bases same) finished in
      subst (Accept p) (fold_certificate_is claim.Optimal listed o.point f c at bricks claims fold)
      (fold_accepted Closed claim.Optimal listed o.point f same here part refl)

-- the certificate of an outcome breaks no rule
pub outcome_is_accepted : (p : Program) (o : Outcome) (c : Certificate) → IsProgram p → IsOutcome p o →
    IsCertificate p o c → Accept p c
outcome_is_accepted p o c program outcome certificate = by o.verdict outcome certificate
  where
    by : (v : Verdict) → IsOutcome p (judged o v) → IsCertificate p (judged o v) c → Accept p c
    by (Optimal least) h k = optimum_accepted p program o c least h k
    by (InfeasibleBrick number residual) h k = brick_accepted p o c number residual program h k
    by (InfeasibleLink residual) h k = link_accepted p program o c residual h k
