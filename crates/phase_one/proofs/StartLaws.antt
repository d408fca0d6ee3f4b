-- Laws of the runs of the first bricks, one after the other.
use Rattle.std.proofs.Common.{◌≡◌, ℕ, suc, ◌+◌, ◌-◌, ◌*◌, ◌<◌, ◌≤◌, ◌≤ℤ◌, List, [], ◌∷◌, ◌++◌, length, take, refl, ap}
use Rattle.std.proofs.Common.{arith, ◌∙◌, subst, Some, slice_get, length-append, Vec, Global}
use Rattle.std.specs.List.{AllZip, AllByRecursion}
use Rattle.std.proofs.lemmas.List.{take_more, take_all, map-append}
use Rattle.std.proofs.lemmas.List.Elements.{length_all_zip, recursion_from_All}
use Rattle.std.proofs.lemmas.Option.{slice_get_within, get_or_from_slice_get}
use Rattle.lattice_theory.specs.Vectors.{Vector}
use Rattle.lattice_theory.specs.Matrices.{product, rows_of}
use Rattle.fold_theory.specs.declared.Phase.TheVariants.{Counted}
use Rattle.fold_theory.specs.Programs.{Program, Brick, Bricks, IsBrick, IsProgram, IsWithin, AreWithin, brick_residual}
use Rattle.lattice_laws.proofs.VectorLists.{rows_of-push}
use Rattle.run_theory.specs.BrickRuns.{BrickMove, IsBrickRun}
use Rattle.run_theory.specs.Outcomes.{AllSettle, FirstStuck}
use Rattle.run_theory.specs.Starts.{IsStart}
use Rattle.fold_laws.proofs.Rests.{met}
use Rattle.brick_phase.specs.Settled.{IsBrickEnd}
use Rattle.fold_program.specs.Places.{OfBrick}
use Rattle.phase_one.specs.Started.{lists}

-- ---- one list more

lists-push : (traces : List (Vec BrickMove Global)) (trace : Vec BrickMove Global) →
    lists (traces ++ trace ∷ []) ≡ lists traces ++ trace.items ∷ []
lists-push traces trace = map-append (λ (t : Vec BrickMove Global). t.items) traces (trace ∷ [])

AllZip-push : {A B : Type 0} (R : A → B → Type 0) → (xs : List A) (ys : List B) (x : A) (y : B) → AllZip R xs ys →
    R x y →
    AllZip R (xs ++ x ∷ []) (ys ++ y ∷ [])
AllZip-push R [] [] x y all holds = (holds, tt)
AllZip-push R [] (b ∷ ys) x y all holds = absurd all
AllZip-push R (a ∷ xs) [] x y all holds = absurd all
AllZip-push R (a ∷ xs) (b ∷ ys) x y all holds = (all.0, AllZip-push R xs ys x y all.1 holds)

module _ (p : Program) (basis : List Vector) where
  AllSettle-push : (bs : List Brick) (traces : List (List BrickMove)) (x : Bricks) (b : Brick) (ms : List BrickMove)
      (v : Vector) →
      AllSettle p basis bs traces x → IsBrickRun p basis b ms v → brick_residual p b v ≡ 0 →
      AllSettle p basis (bs ++ b ∷ []) (traces ++ ms ∷ []) (x ++ v ∷ [])
  AllSettle-push [] [] [] b ms v all run met = (run, met, tt)
  AllSettle-push [] [] (w ∷ x) b ms v all run met = absurd all
  AllSettle-push [] (ns ∷ traces) x b ms v all run met = absurd all
  AllSettle-push (c ∷ bs) [] x b ms v all run met = absurd all
  AllSettle-push (c ∷ bs) (ns ∷ traces) [] b ms v all run met = absurd all
  AllSettle-push (c ∷ bs) (ns ∷ traces) (w ∷ x) b ms v all run met =
      (all.0, all.1, AllSettle-push bs traces x b ms v all.2 run met)

  -- ---- the first bricks

  -- the first k bricks settle, at these entries
  pub record AreJoined (k : ℕ) (traces : List (Vec BrickMove Global)) (entries : Vector) : Type 0 where
    pub few : k ≤ length p.bricks
    pub size : length entries ≡ k * p.link.cols
    pub settled : AllSettle p basis (take k p.bricks) (lists traces) (rows_of k p.link.cols entries)
    pub within : AreWithin (take k p.bricks) (rows_of k p.link.cols entries)

  pub joined_none : AreJoined 0 [] []
  joined_none = record { few = omega arith; size = omega arith; settled = tt; within = tt }

  brick_of : (k : ℕ) (b : Brick) → IsProgram p → slice_get p.bricks k ≡ Some b →
      IsBrick p.link.cols (length p.brick.rows) b
  brick_of k b program there =
      subst (IsBrick p.link.cols (length p.brick.rows)) (get_or_from_slice_get p.bricks k b b there)
      (program.each_brick k b (slice_get_within p.bricks k b there))

  -- the next brick settles too
  pub joined_more : (k : ℕ) (traces : List (Vec BrickMove Global)) (trace : Vec BrickMove Global) (entries v : Vector) →
      IsProgram p →
      IsBrickEnd p basis (k + 1) trace.items v 0 → AreJoined k traces entries →
      AreJoined (k + 1) (traces ++ trace ∷ []) (entries ++ v)
  joined_more k traces trace entries v program (b, there, run, met, within) so_far =
      let place : k + 1 - 1 ≡ k = omega arith in
      let here : slice_get p.bricks k ≡ Some b = rw place at there in
      let low : k < length p.bricks = slice_get_within p.bricks k b here in
      let bricks : take (k + 1) p.bricks ≡ take k p.bricks ++ b ∷ [] =
      take_more p.bricks k b low ∙ ap (λ c. take k p.bricks ++ c ∷ []) (get_or_from_slice_get p.bricks k b b here) in
      let width : length v ≡ p.link.cols =
      omega (arith, (brick_of k b program here).lower_size, length_all_zip ◌≤ℤ◌ b.lower v within.0) in
      let next : k + 1 ≡ suc k = omega arith in
      let rows : rows_of (k + 1) p.link.cols (entries ++ v) ≡ rows_of k p.link.cols entries ++ v ∷ [] =
      ap (λ n. rows_of n p.link.cols (entries ++ v)) next ∙ rows_of-push k p.link.cols entries v so_far.size width in
      record {
        few = omega arith;
        size = simp length-append (omega (arith, so_far.size, width));
        settled = rw (bricks, rows, lists-push traces trace)
            (AllSettle-push (take k p.bricks) (lists traces)
            (rows_of k p.link.cols entries) b trace.items v so_far.settled run met);
        within =
            rw (bricks, rows)
            (AllZip-push IsWithin (take k p.bricks) (rows_of k p.link.cols entries) b v so_far.within within);
      }

  -- the next brick is stuck
  pub joined_stuck : (k residual : ℕ) (traces : List (Vec BrickMove Global)) (trace : Vec BrickMove Global)
      (entries v : Vector) →
      IsBrickEnd p basis (k + 1) trace.items v residual → 0 < residual → AreJoined k traces entries →
      FirstStuck p basis (k + 1) residual v (lists (traces ++ trace ∷ [])) × OfBrick p (k + 1) (λ b. IsWithin b v)
  joined_stuck k residual traces trace entries v (b, there, run, left, within) above so_far =
      let place : k + 1 - 1 ≡ k = omega arith in (
        record {
          place = k;
          numbered = refl;
          brick = b;
          there = rw place at there;
          earlier = lists traces;
          joint = rows_of k p.link.cols entries;
          settled = so_far.settled;
          last = trace.items;
          run = run;
          left = left;
          stuck = above;
          all = lists-push traces trace;
        },
        (b, there, within),
      )

  -- ---- all bricks

  all_met : (bs : List Brick) (traces : List (List BrickMove)) (x : Bricks) →
      AllByRecursion (IsBrick p.link.cols (length p.brick.rows)) bs →
      AllSettle p basis bs traces x → AllZip (λ b v. product p.brick v ≡ b.right) bs x
  all_met [] [] [] sizes all = tt
  all_met [] [] (v ∷ x) sizes all = absurd all
  all_met [] (ms ∷ traces) x sizes all = absurd all
  all_met (b ∷ bs) [] x sizes all = absurd all
  all_met (b ∷ bs) (ms ∷ traces) [] sizes all = absurd all
  all_met (b ∷ bs) (ms ∷ traces) (v ∷ x) sizes all =
      (met p b v sizes.0.right_size all.1, all_met bs traces x sizes.1 all.2)

  -- where all have settled, the entries are those of a start of phase Counted
  pub record AreStart (traces : List (Vec BrickMove Global)) (entries : Vector) : Type 0 where
    pub size : length entries ≡ length p.bricks * p.link.cols
    pub settled : AllSettle p basis p.bricks (lists traces) (rows_of (length p.bricks) p.link.cols entries)
    pub start : IsStart p Counted (rows_of (length p.bricks) p.link.cols entries)

  pub joined_all : (k : ℕ) (traces : List (Vec BrickMove Global)) (entries : Vector) → IsProgram p →
      length p.bricks ≤ k →
      AreJoined k traces entries → AreStart traces entries
  joined_all k traces entries program many so_far =
      let all : k ≡ length p.bricks = omega (arith, so_far.few) in
      let bricks : take k p.bricks ≡ p.bricks = take_all k p.bricks many in
      let settled : AllSettle p basis p.bricks (lists traces) (rows_of (length p.bricks) p.link.cols entries) =
      rw (bricks, all) at so_far.settled in
      let within : AreWithin p.bricks (rows_of (length p.bricks) p.link.cols entries) =
      rw (bricks, all) at so_far.within in
      let sizes = recursion_from_All (IsBrick p.link.cols (length p.brick.rows)) p.bricks program.each_brick in
      record {
        size = so_far.size ∙ ap (λ n. n * p.link.cols) all;
        settled = settled;
        start = record {
          within = within;
          brick_rows = all_met p.bricks (lists traces) (rows_of (length p.bricks) p.link.cols entries) sizes settled;
          end = tt;
        };
      }
