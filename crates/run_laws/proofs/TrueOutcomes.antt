-- What an outcome says of its program is true.
use Rattle.std.proofs.Common.{◌≡◌, ℕ, ◌<◌, ◌≤◌, ℤ, List, [], ◌∷◌, length, Option, Some, None, arith, sym, subst}
use Rattle.std.proofs.lemmas.Int.{ints}
use Rattle.std.specs.List.{AllZip, AllByRecursion}
use Rattle.fold_theory.specs.declared.Phase.TheVariants.{Closed, Counted}
use Rattle.fold_theory.specs.declared.Verdict.{Verdict}
use Rattle.fold_theory.specs.declared.Verdict.TheVariants.{Optimal, InfeasibleBrick, InfeasibleLink}
use Rattle.lattice_theory.specs.Vectors.{Vector}
use Rattle.lattice_theory.specs.Matrices.{product}
use Rattle.lattice_theory.specs.Lattices.{IsSlackBasis}
use Rattle.fold_theory.specs.Programs.{Program, Brick, Bricks, IsBrick, IsProgram, IsFeasible, AreWithin}
use Rattle.fold_theory.specs.Programs.{brick_residual, link_rests, link_miss, cost}
use Rattle.fold_theory.specs.Verdicts.{Holds}
use Rattle.run_theory.specs.Links.{Bases, AreBases}
use Rattle.run_theory.specs.BrickRuns.{BrickMove}
use Rattle.run_theory.specs.Outcomes.{Outcome, RunRecord, AllSettle, FirstStuck, CountedPart, ClosedPart, IsOutcome}
use Rattle.run_theory.specs.Outcomes.{HoldsAt}
use Rattle.piece_laws.proofs.Starts.{bricks_of}
use Rattle.piece_laws.proofs.BrickEnds.{brick_run_end}
use Rattle.run_theory.specs.Starts.{IsStart}
use Rattle.fold_laws.proofs.Rests.{met}
use Rattle.run_laws.proofs.Stuck.{stuck_holds}
use Rattle.run_laws.proofs.PhaseRuns.{run_best}

module _ (p : Program) where
  -- where all bricks settle, they are within the bounds and meet their rows
  settled : (basis : List Vector) (bs : List Brick) (traces : List (List BrickMove)) (x : Bricks) →
      AllByRecursion (IsBrick p.brick.cols (length p.brick.rows)) bs → AllSettle p basis bs traces x →
      AreWithin bs x × AllZip (λ b v. product p.brick v ≡ b.right) bs x
  settled basis [] [] [] is all = (tt, tt)
  settled basis [] [] (v ∷ x) is all = absurd all
  settled basis [] (ms ∷ traces) x is all = absurd all
  settled basis (b ∷ bs) [] x is all = absurd all
  settled basis (b ∷ bs) (ms ∷ traces) [] is all = absurd all
  settled basis (b ∷ bs) (ms ∷ traces) (v ∷ x) is all =
      let end = brick_run_end p basis b ms v is.0.uncrossed all.0 in
      let rest = settled basis bs traces x is.1 all.2 in
      ((end.within, rest.0), (met p b v is.0.right_size all.1, rest.1))

  -- so the first phase can start there
  pub settled_start : (basis : List Vector) (traces : List (List BrickMove)) (x : Bricks) → IsProgram p →
      AllSettle p basis p.bricks traces x → IsStart p Counted x
  settled_start basis traces x program all =
      let both = settled basis p.bricks traces x (bricks_of p program) all in
      record { within = both.0; brick_rows = both.1; end = tt }

  -- ---- what the linking rows miss

  -- the end of the first phase is within the bounds and meets the brick rows; where it misses a linking row, no such
  -- point misses them by less
  record IsCountedEnd (y : Bricks) : Type 0 where
    start : IsStart p Counted y
    least : (z : Bricks) → IsStart p Counted z → link_miss p (link_rests p y) ≤ link_miss p (link_rests p z)

  counted_end : (b : Bases) (x y : Bricks) (made : Option RunRecord) → IsProgram p → AreBases p b →
      IsStart p Counted x → CountedPart p b x made y → IsCountedEnd y
  counted_end b x y None program bases start part =
      subst IsCountedEnd (sym part.1) (record { start = start; least = λ z other. omega (arith, part.0) })
  counted_end b x y (Some made) program bases start part =
      let recorded = part.3 in
      let best = run_best p Counted b part.1 recorded.moves x y program bases part.2 start recorded.run in
      record { start = best.start; least = λ z other. omega (arith, ints, best.least z other) }

  link_holds : (b : Bases) (x y : Bricks) (made : Option RunRecord) (residual : ℕ) → IsProgram p → AreBases p b →
      IsStart p Counted x → CountedPart p b x made y → link_miss p (link_rests p y) ≡ residual → 0 < residual →
      Holds p (InfeasibleLink residual)
  link_holds b x y made residual program bases start part left above =
      let end = counted_end b x y made program bases start part in (
        record {
          above = above;
          reached = (y, end.start.within, end.start.brick_rows, left);
          least = λ z within meets.
              omega (arith, left, end.least z (record { within = within; brick_rows = meets; end = tt }));
        },
        λ z feasible.
            let other : IsStart p Counted z =
            record { within = feasible.within; brick_rows = feasible.brick_rows; end = tt } in
            omega (arith, left, above, end.least z other, feasible.link_rows),
      )

  -- ---- the least cost

  abbrev IsOptimumAt : Bricks → ℤ → Type 0
  IsOptimumAt y c = Holds p (Optimal c) × (IsFeasible p y × (cost p y ≡ c))

  optimum_at : (b : Bases) (x y : Bricks) (made : Option RunRecord) (c : ℤ) → IsProgram p → AreBases p b →
      IsStart p Closed x → ClosedPart p b x made y → cost p y ≡ c → IsOptimumAt y c
  optimum_at b x y None c program bases start part costs = absurd part
  optimum_at b x y (Some made) c program bases start part costs =
      let recorded = part.2 in
      let best = run_best p Closed b part.0 recorded.moves x y program bases part.1 start recorded.run in
      let feasible : IsFeasible p y =
      record { within = best.start.within; brick_rows = best.start.brick_rows; link_rows = best.start.end } in (
        record {
          reached = (y, feasible, costs);
          least = λ z other.
              omega (
                arith,
                ints,
                costs,
                best.least z
                    (record { within = other.within; brick_rows = other.brick_rows; end = other.link_rows }),
              );
        },
        (feasible, costs),
      )

  -- ---- by the verdict

  stuck_first : (basis : List Vector) (number residual : ℕ) (v : Vector) (traces : List (List BrickMove)) →
      IsProgram p → IsSlackBasis p.brick basis → FirstStuck p basis number residual v traces →
      Holds p (InfeasibleBrick number residual)
  stuck_first basis number residual v traces program slack f =
      let holds =
      stuck_holds p basis f.place f.brick f.last v program slack f.there f.run (omega (arith, f.left, f.stuck)) in
      subst (λ r. Holds p (InfeasibleBrick number r)) f.left
      (subst (λ n. Holds p (InfeasibleBrick n (brick_residual p f.brick v))) (sym f.numbered) holds)

  abbrev saying : Outcome → Verdict → Outcome
  saying o v = record { verdict = v; point = o.point; traces = o.traces; counted = o.counted; closed = o.closed }

  -- what an outcome says is true, by its verdict
  pub outcome_holds : (o : Outcome) → IsProgram p → IsOutcome p o → HoldsAt p o
  outcome_holds o program is = by o.verdict is
    where
      by : (v : Verdict) → IsOutcome p (saying o v) → HoldsAt p (saying o v)
      by (InfeasibleBrick number residual) (basis, v, slack, first, point, counted, closed) =
          (stuck_first basis number residual v o.traces program slack first, tt)
      by (InfeasibleLink residual) (b, x, bases, all, part, left, above, none) = (
        link_holds b x o.point o.counted residual program bases (settled_start b.brick o.traces x program all) part
            left above,
        tt,
      )
      by (Optimal c) (b, x, y, bases, all, part, met_links, closed, costs) =
          let end = counted_end b x y o.counted program bases (settled_start b.brick o.traces x program all) part in
          let start : IsStart p Closed y =
          record { within = end.start.within; brick_rows = end.start.brick_rows; end = met_links } in
          optimum_at b y o.point o.closed c program bases start closed costs
