-- A program has at most one outcome.
use Rattle.std.proofs.Common.{◌≡◌, ℕ, ℤ, List, [], ◌∷◌, Option, Some, None, refl, ap, arith, sym, ◌∙◌, subst}
use Rattle.std.proofs.lemmas.Int.{ints}
use Rattle.fold_theory.specs.declared.Phase.{Phase}
use Rattle.fold_theory.specs.declared.Phase.TheVariants.{Closed, Counted}
use Rattle.fold_theory.specs.declared.Verdict.{Verdict}
use Rattle.fold_theory.specs.declared.Verdict.TheVariants.{Optimal, InfeasibleBrick, InfeasibleLink}
use Rattle.lattice_theory.specs.Vectors.{Vector}
use Rattle.lattice_theory.specs.Lattices.{IsSlackBasis}
use Rattle.lattice_theory.specs.SignedSums.{Sum, vectors}
use Rattle.lattice_laws.proofs.SlackBases.{slack_basis_unique}
use Rattle.fold_theory.specs.Programs.{Program, Bricks, link_rests, link_miss, phase_cost, cost}
use Rattle.run_theory.specs.Links.{Bases, AreBases, generators, links_of, fold_complexity}
use Rattle.run_theory.specs.BrickSums.{AreBrickSums}
use Rattle.run_theory.specs.BrickRuns.{BrickMove}
use Rattle.run_theory.specs.Outcomes.{Outcome, RunRecord, IsRecorded, steps_from, AllSettle, FirstStuck, CountedPart}
use Rattle.run_theory.specs.Outcomes.{ClosedPart, IsOutcome}
use Rattle.outcome_laws.proofs.Runs.{run_unique}
use Rattle.outcome_laws.proofs.SumLists.{sums_unique}
use Rattle.outcome_laws.proofs.SettledBricks.{settled_unique, settled_or_stuck, stuck_unique}

module _ (p : Program) where
  -- ---- bases, sums and runs

  pub bases_unique : (b c : Bases) → AreBases p b → AreBases p c → b ≡ c
  bases_unique b c first second =
      let brick : b.brick ≡ c.brick = slack_basis_unique p.brick b.brick c.brick first.brick second.brick in
      let links : b.links ≡ c.links =
      slack_basis_unique (links_of p c.brick) b.links c.links
      (subst (λ basis. IsSlackBasis (links_of p basis) b.links) brick first.links) second.links in
      λ i. record { brick = brick i; links = links i }

  pub brick_sums_unique : (phase : Phase) (b : Bases) (ss rs : List Sum) → AreBrickSums p phase b ss →
      AreBrickSums p phase b rs → ss ≡ rs
  brick_sums_unique phase b ss rs first second =
      sums_unique p.brick.cols (generators p b.brick) (fold_complexity p phase b) ss rs first second

  -- a run is recorded in one way
  recorded_unique : (phase : Phase) (zs : List Vector) (x : Bricks) (made other : RunRecord) (y z : Bricks) →
      IsRecorded p phase zs x made y → IsRecorded p phase zs x other z → (made ≡ other) × (y ≡ z)
  recorded_unique phase zs x made other y z first second =
      let run = run_unique p phase zs x first.moves second.moves y z first.run second.run in
      let steps : made.steps ≡ other.steps = first.steps ∙ ap (steps_from p phase x) run.0 ∙ sym second.steps in
      let gain : made.gain ≡ other.gain =
      omega (arith, ints, first.fallen, second.fallen, ap (phase_cost p phase) run.1) in
      let factor : made.factor ≡ other.factor = first.factor ∙ sym second.factor in
      (λ i. record { steps = steps i; gain = gain i; factor = factor i }, run.1)

  -- the same over the sums that each record has
  run_of_sums : (phase : Phase) (b : Bases) (x : Bricks) (made other : RunRecord) (y z : Bricks) (ss rs : List Sum) →
      AreBrickSums p phase b ss → AreBrickSums p phase b rs → IsRecorded p phase (vectors ss) x made y →
      IsRecorded p phase (vectors rs) x other z → (Some made ≡ Some other) × (y ≡ z)
  run_of_sums phase b x made other y z ss rs sums others first second =
      let same = brick_sums_unique phase b ss rs sums others in
      let one =
      recorded_unique phase (vectors rs) x made other y z
      (subst (λ s. IsRecorded p phase (vectors s) x made y) same first) second in
      (ap Some one.0, one.1)

  -- ---- the two phases

  pub counted_unique : (b : Bases) (x : Bricks) (made other : Option RunRecord) (y z : Bricks) →
      CountedPart p b x made y → CountedPart p b x other z → (made ≡ other) × (y ≡ z)
  counted_unique b x None None y z first second = (refl, first.1 ∙ sym second.1)
  counted_unique b x None (Some other) y z first second = absurd (omega (arith, first.0, second.0))
  counted_unique b x (Some made) None y z first second = absurd (omega (arith, first.0, second.0))
  counted_unique b x (Some made) (Some other) y z first second =
      run_of_sums Counted b x made other y z first.1 second.1 first.2 second.2 first.3 second.3

  closed_unique : (b : Bases) (x : Bricks) (made other : Option RunRecord) (y z : Bricks) →
      ClosedPart p b x made y → ClosedPart p b x other z → (made ≡ other) × (y ≡ z)
  closed_unique b x None other y z first second = absurd first
  closed_unique b x (Some made) None y z first second = absurd second
  closed_unique b x (Some made) (Some other) y z first second =
      run_of_sums Closed b x made other y z first.0 second.0 first.1 second.1 first.2 second.2

  -- ---- up to the end of the first phase

  -- all bricks settle by these runs, and the first phase, so recorded, ends at y
  record IsReached (b : Bases) (traces : List (List BrickMove)) (made : Option RunRecord) (y : Bricks) : Type 0 where
    bases : AreBases p b
    x : Bricks
    settled : AllSettle p b.brick p.bricks traces x
    part : CountedPart p b x made y

  reached_unique : (b c : Bases) (ts us : List (List BrickMove)) (made other : Option RunRecord) (y z : Bricks) →
      IsReached b ts made y → IsReached c us other z → (ts ≡ us) × ((made ≡ other) × (y ≡ z))
  reached_unique b c ts us made other y z first second =
      let bases : b ≡ c = bases_unique b c first.bases second.bases in
      let settles =
      settled_unique p c.brick p.bricks ts us first.x second.x
      (subst (λ (a : Bases). AllSettle p a.brick p.bricks ts first.x) bases first.settled) second.settled in
      let part : CountedPart p c second.x made y =
      subst (λ x. CountedPart p c x made y) settles.1
      (subst (λ a. CountedPart p a first.x made y) bases first.part) in
      (settles.0, counted_unique c second.x made other y z part second.part)

  -- ---- what outcomes say

  abbrev pub saying : Outcome → Verdict → Outcome
  saying o v = record { verdict = v; point = o.point; traces = o.traces; counted = o.counted; closed = o.closed }

  abbrev pub SaysStuck : Outcome → ℕ → ℕ → Type 0
  SaysStuck o number residual = IsOutcome p (saying o (InfeasibleBrick number residual))

  abbrev pub SaysMissed : Outcome → ℕ → Type 0
  SaysMissed o residual = IsOutcome p (saying o (InfeasibleLink residual))

  abbrev pub SaysBest : Outcome → ℤ → Type 0
  SaysBest o value = IsOutcome p (saying o (Optimal value))

  missed_reached : (o : Outcome) (residual : ℕ) (is : SaysMissed o residual) →
      IsReached is.0 o.traces o.counted o.point
  missed_reached o residual is = record { bases = is.2; x = is.1; settled = is.3; part = is.4 }

  best_reached : (o : Outcome) (value : ℤ) (is : SaysBest o value) → IsReached is.0 o.traces o.counted is.2
  best_reached o value is = record { bases = is.3; x = is.1; settled = is.4; part = is.5 }

  -- ---- two of one kind

  both_stuck : (o q : Outcome) (number residual other left : ℕ) → SaysStuck o number residual →
      SaysStuck q other left → saying o (InfeasibleBrick number residual) ≡ saying q (InfeasibleBrick other left)
  both_stuck o q number residual other left first second =
      let same = slack_basis_unique p.brick first.0 second.0 first.2 second.2 in
      let one =
      stuck_unique p second.0 number residual other left first.1 second.1 o.traces q.traces
      (subst (λ basis. FirstStuck p basis number residual first.1 o.traces) same first.3) second.3 in
      let points : o.point ≡ q.point = first.4 ∙ ap (λ v. v ∷ []) one.vectors ∙ sym second.4 in
      let counted : o.counted ≡ q.counted = first.5 ∙ sym second.5 in
      let closed : o.closed ≡ q.closed = first.6 ∙ sym second.6 in
      λ i. record {
        verdict = InfeasibleBrick (one.numbers i) (one.residuals i);
        point = points i;
        traces = one.traces i;
        counted = counted i;
        closed = closed i;
      }

  both_missed : (o q : Outcome) (residual left : ℕ) → SaysMissed o residual → SaysMissed q left →
      saying o (InfeasibleLink residual) ≡ saying q (InfeasibleLink left)
  both_missed o q residual left first second =
      let one =
      reached_unique first.0 second.0 o.traces q.traces o.counted q.counted o.point q.point
      (missed_reached o residual first) (missed_reached q left second) in
      let residuals : residual ≡ left =
      sym first.5 ∙ ap (λ y. link_miss p (link_rests p y)) one.1.1 ∙ second.5 in
      let closed : o.closed ≡ q.closed = first.7 ∙ sym second.7 in
      λ i. record {
        verdict = InfeasibleLink (residuals i);
        point = one.1.1 i;
        traces = one.0 i;
        counted = one.1.0 i;
        closed = closed i;
      }

  both_best : (o q : Outcome) (value other : ℤ) → SaysBest o value → SaysBest q other →
      saying o (Optimal value) ≡ saying q (Optimal other)
  both_best o q value other first second =
      let one =
      reached_unique first.0 second.0 o.traces q.traces o.counted q.counted first.2 second.2
      (best_reached o value first) (best_reached q other second) in
      let closed : ClosedPart p second.0 second.2 o.closed o.point =
      subst (λ y. ClosedPart p second.0 y o.closed o.point) one.1.1
      (subst (λ b. ClosedPart p b first.2 o.closed o.point) (bases_unique first.0 second.0 first.3 second.3) first.7) in
      let last = closed_unique second.0 second.2 o.closed q.closed o.point q.point closed second.7 in
      let values : value ≡ other = sym first.8 ∙ ap (cost p) last.1 ∙ second.8 in
      λ i. record {
        verdict = Optimal (values i);
        point = last.1 i;
        traces = one.0 i;
        counted = one.1.0 i;
        closed = last.0 i;
      }

  -- ---- no two of different kinds

  -- where a brick is stuck, the bricks do not all settle
  pub stuck_or_settled : (o : Outcome) (number residual : ℕ) (basis : List Vector) (ts : List (List BrickMove))
      (x : Bricks) → SaysStuck o number residual → IsSlackBasis p.brick basis → AllSettle p basis p.bricks ts x → ⊥
  stuck_or_settled o number residual basis ts x is slack settled =
      let first = is.3 in
      let same = slack_basis_unique p.brick basis is.0 slack is.2 in
      settled_or_stuck p is.0 p.bricks ts x first.place first.brick first.last is.1
      (subst (λ zs. AllSettle p zs p.bricks ts x) same settled) first.there first.run
      (omega (arith, first.left, first.stuck))

  stuck_or_reached : (o : Outcome) (number residual : ℕ) (b : Bases) (ts : List (List BrickMove))
      (made : Option RunRecord) (y : Bricks) → SaysStuck o number residual → IsReached b ts made y → ⊥
  stuck_or_reached o number residual b ts made y is reached =
      stuck_or_settled o number residual b.brick ts reached.x is reached.bases.brick reached.settled

  -- the linking rows are missed or met at the end of the first phase
  missed_or_best : (o q : Outcome) (residual : ℕ) (value : ℤ) → SaysMissed o residual → SaysBest q value → ⊥
  missed_or_best o q residual value first second =
      let one =
      reached_unique first.0 second.0 o.traces q.traces o.counted q.counted o.point second.2
      (missed_reached o residual first) (best_reached q value second) in
      absurd (omega (arith, first.5, first.6, second.6, ap (λ y. link_miss p (link_rests p y)) one.1.1))

  -- ---- by the verdicts

  pub outcome_unique : (o q : Outcome) → IsOutcome p o → IsOutcome p q → o ≡ q
  outcome_unique o q first second = by o.verdict q.verdict first second
    where
      by : (v w : Verdict) → IsOutcome p (saying o v) → IsOutcome p (saying q w) → saying o v ≡ saying q w
      by (InfeasibleBrick n r) (InfeasibleBrick m l) one two = both_stuck o q n r m l one two
      by (InfeasibleBrick n r) (InfeasibleLink l) one two =
          absurd (stuck_or_reached o n r two.0 q.traces q.counted q.point one (missed_reached q l two))
      by (InfeasibleBrick n r) (Optimal c) one two =
          absurd (stuck_or_reached o n r two.0 q.traces q.counted two.2 one (best_reached q c two))
      by (InfeasibleLink l) (InfeasibleBrick n r) one two =
          absurd (stuck_or_reached q n r one.0 o.traces o.counted o.point two (missed_reached o l one))
      by (InfeasibleLink r) (InfeasibleLink l) one two = both_missed o q r l one two
      by (InfeasibleLink r) (Optimal c) one two = absurd (missed_or_best o q r c one two)
      by (Optimal c) (InfeasibleBrick n r) one two =
          absurd (stuck_or_reached q n r one.0 o.traces o.counted one.2 two (best_reached o c one))
      by (Optimal c) (InfeasibleLink r) one two = absurd (missed_or_best q o r c two one)
      by (Optimal c) (Optimal d) one two = both_best o q c d one two
