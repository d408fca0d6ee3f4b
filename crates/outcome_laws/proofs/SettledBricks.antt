-- Bricks that settle settle in one way, none of them is stuck, and the first stuck one is one brick.
use Rattle.std.proofs.Common.{◌≡◌, ℕ, zero, suc, ◌<◌, List, [], ◌∷◌, ◌++◌, take, Some, slice_get, refl, ap, arith, sym}
use Rattle.std.proofs.Common.{◌∙◌, inl, inr, subst}
use Rattle.std.proofs.lemmas.Bool.{cases_order}
use Rattle.lattice_theory.specs.Vectors.{Vector}
use Rattle.fold_theory.specs.Programs.{Program, Brick, Bricks, brick_residual}
use Rattle.run_theory.specs.BrickRuns.{BrickMove, nearest_point, IsBrickRun}
use Rattle.run_theory.specs.Outcomes.{AllSettle, FirstStuck}
use Rattle.outcome_laws.proofs.Runs.{brick_run_unique}

module _ (p : Program) (basis : List Vector) where
  -- the run of a brick is one
  run_unique_of : (b : Brick) (ms ns : List BrickMove) (u v : Vector) → IsBrickRun p basis b ms u →
      IsBrickRun p basis b ns v → (ms ≡ ns) × (u ≡ v)
  run_unique_of b ms ns u v left right = brick_run_unique p basis b (nearest_point b) ms ns u v left right

  -- ---- all bricks settle

  -- they settle by one list of runs, at one point
  pub settled_unique : (bs : List Brick) (ts us : List (List BrickMove)) (x y : Bricks) → AllSettle p basis bs ts x →
      AllSettle p basis bs us y → (ts ≡ us) × (x ≡ y)
  settled_unique [] [] [] [] [] left right = (refl, refl)
  settled_unique [] [] [] [] (w ∷ y) left right = absurd right
  settled_unique [] [] (ns ∷ us) [] y left right = absurd right
  settled_unique [] [] us (v ∷ x) y left right = absurd left
  settled_unique [] (ms ∷ ts) us x y left right = absurd left
  settled_unique (b ∷ bs) [] us x y left right = absurd left
  settled_unique (b ∷ bs) (ms ∷ ts) us [] y left right = absurd left
  settled_unique (b ∷ bs) (ms ∷ ts) [] (v ∷ x) y left right = absurd right
  settled_unique (b ∷ bs) (ms ∷ ts) (ns ∷ us) (v ∷ x) [] left right = absurd right
  settled_unique (b ∷ bs) (ms ∷ ts) (ns ∷ us) (v ∷ x) (w ∷ y) left right =
      let here = run_unique_of b ms ns v w left.0 right.0 in
      let rest = settled_unique bs ts us x y left.2 right.2 in
      (λ i. here.0 i ∷ rest.0 i, λ i. here.1 i ∷ rest.1 i)

  -- among bricks that settle none has a run that ends with a residual
  pub settled_or_stuck : (bs : List Brick) (ts : List (List BrickMove)) (x : Bricks) (place : ℕ) (b : Brick)
      (ms : List BrickMove) (v : Vector) → AllSettle p basis bs ts x → slice_get bs place ≡ Some b →
      IsBrickRun p basis b ms v → 0 < brick_residual p b v → ⊥
  settled_or_stuck [] ts x place b ms v all there run stuck = absurd (cc)
  settled_or_stuck (a ∷ bs) [] x place b ms v all there run stuck = absurd all
  settled_or_stuck (a ∷ bs) (ns ∷ ts) [] place b ms v all there run stuck = absurd all
  settled_or_stuck (a ∷ bs) (ns ∷ ts) (w ∷ x) zero b ms v all there run stuck =
      let same : a ≡ b = cc in
      let run_there : IsBrickRun p basis b ns w = subst (λ c. IsBrickRun p basis c ns w) same all.0 in
      let none : brick_residual p b w ≡ 0 = subst (λ c. brick_residual p c w ≡ 0) same all.1 in
      let ends = (run_unique_of b ns ms w v run_there run).1 in
      absurd (omega (arith, none, stuck, ap (brick_residual p b) ends))
  settled_or_stuck (a ∷ bs) (ns ∷ ts) (w ∷ x) (suc place) b ms v all there run stuck =
      settled_or_stuck bs ts x place b ms v all.2 there run stuck

  -- ---- the first stuck brick

  -- what stands at a place before n stands among the first n
  still_there : (bs : List Brick) (n place : ℕ) (b : Brick) → place < n → slice_get bs place ≡ Some b →
      slice_get (take n bs) place ≡ Some b
  still_there [] n place b low there = absurd (cc)
  still_there (a ∷ bs) zero place b low there = absurd (omega arith)
  still_there (a ∷ bs) (suc n) zero b low there = there
  still_there (a ∷ bs) (suc n) (suc place) b low there = still_there bs n place b (omega arith) there

  module _ (number residual other left : ℕ) (v w : Vector) (ts us : List (List BrickMove))
      (first : FirstStuck p basis number residual v ts) (second : FirstStuck p basis other left w us) where
    -- of two places the earlier brick would settle
    place_unique : first.place ≡ second.place
    place_unique = elim (cases_order first.place second.place) [
      | inl same ↦ same
      | inr (inl before) ↦
          absurd (settled_or_stuck (take second.place p.bricks) second.earlier second.joint first.place first.brick
          first.last v second.settled
          (still_there p.bricks second.place first.place first.brick before first.there) first.run
          (omega (arith, first.left, first.stuck)))
      | inr (inr behind) ↦
          absurd (settled_or_stuck (take first.place p.bricks) first.earlier first.joint second.place second.brick
          second.last w first.settled
          (still_there p.bricks first.place second.place second.brick behind second.there) second.run
          (omega (arith, second.left, second.stuck)))
    ]

    pub record IsOneStuck : Type 0 where
      pub numbers : number ≡ other
      pub residuals : residual ≡ left
      pub vectors : v ≡ w
      pub traces : ts ≡ us

    same_brick : first.brick ≡ second.brick
    same_brick =
        let here : Some first.brick ≡ Some second.brick =
        sym first.there ∙ ap (slice_get p.bricks) place_unique ∙ second.there in
        cc

    -- what two records of the first stuck brick say is the same
    pub stuck_unique : IsOneStuck
    stuck_unique =
        let run = subst (λ b. IsBrickRun p basis b first.last v) same_brick first.run in
        let ends = run_unique_of second.brick first.last second.last v w run second.run in
        let earlier = settled_unique (take second.place p.bricks) first.earlier second.earlier first.joint second.joint
        (subst (λ n. AllSettle p basis (take n p.bricks) first.earlier first.joint) place_unique first.settled)
        second.settled in
        record {
          numbers = omega (arith, first.numbered, second.numbered, place_unique);
          residuals =
              sym first.left ∙ (λ i. brick_residual p (same_brick i) (ends.1 i)) ∙ second.left;
          vectors = ends.1;
          traces = first.all ∙ (λ i. earlier.0 i ++ ends.0 i ∷ []) ∙ sym second.all;
        }
