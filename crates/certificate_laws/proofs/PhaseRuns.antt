-- What runs keep: a brick's run ends within the bounds, and where it leaves no residual the brick rows are met; each
-- step of a phase stays within the bounds, keeps the brick rows met, and ends where the phase allows it.
use Rattle.std.proofs.Common.{◌≡◌, ℕ, ◌^◌, pos, List, [], ◌∷◌, length, ap, arith, sym, ◌∙◌, Contains, subst}
use Rattle.std.proofs.lemmas.List.Elements.{recursion_from_All}
use Rattle.std.specs.List.{AllZip, AllByRecursion}
use Rattle.fold_theory.specs.declared.Phase.{Phase}
use Rattle.lattice_theory.specs.Vectors.{Vector, norm1, add, sub, scale, zeros}
use Rattle.lattice_theory.specs.Matrices.{product}
use Rattle.lattice_laws.proofs.Products.{rows-add, length-rows}
use Rattle.fold_theory.specs.Programs.{Program, Brick, Bricks, IsBrick, AreWithin, brick_residual}
use Rattle.run_theory.specs.Steps.{Move, moved, AllowsEnd, IsBest, NoneAugments, IsRun}
use Rattle.run_theory.specs.BrickRuns.{BrickMove}
use Rattle.run_theory.specs.Outcomes.{AllSettle}
use Rattle.lattice_laws.proofs.Sums.{add_zeros}
use Rattle.lattice_laws.proofs.Multiples.{rows-scale, scale-zeros, length-scale}
use Rattle.lattice_laws.specs.VectorLists.{AreSized}
use Rattle.piece_laws.proofs.Points.{points_sized}
use Rattle.piece_laws.proofs.BrickEnds.{brick_run_end}
use Rattle.certificate_laws.proofs.BrickSums.{IsStill}

module _ (p : Program) where
  -- each brick meets its rows
  abbrev pub NoResidual : List Brick → Bricks → Type 0
  NoResidual bs x = AllZip (λ b v. brick_residual p b v ≡ 0) bs x

  -- ---- the runs of the bricks

  pub record IsSettled (bs : List Brick) (x : Bricks) : Type 0 where
    pub within : AreWithin bs x
    pub rows : NoResidual bs x

  pub settled : (t s : ℕ) (basis : List Vector) (bs : List Brick) (traces : List (List BrickMove)) (x : Bricks) →
      AllByRecursion (IsBrick t s) bs → AllSettle p basis bs traces x → IsSettled bs x
  settled t s basis [] [] [] is all = record { within = tt; rows = tt }
  settled t s basis [] [] (v ∷ x) is all = absurd all
  settled t s basis [] (ms ∷ traces) x is all = absurd all
  settled t s basis (b ∷ bs) [] x is all = absurd all
  settled t s basis (b ∷ bs) (ms ∷ traces) [] is all = absurd all
  settled t s basis (b ∷ bs) (ms ∷ traces) (v ∷ x) is all =
      let rest = settled t s basis bs traces x is.1 all.2 in
      record {
        within = ((brick_run_end p basis b ms v is.0.uncrossed all.0).within, rest.within);
        rows = (all.1, rest.rows);
      }

  -- ---- the run of a phase

  -- a move without products with the rows leaves a brick's residual as it is
  same_residual : (b : Brick) (k : ℕ) (v d : Vector) → length v ≡ p.brick.cols → IsStill p.brick d →
      brick_residual p b (add v (scale (pos (2 ^ k)) d)) ≡ brick_residual p b v
  same_residual b k v d size still =
      let l = pos (2 ^ k) in
      let r = length p.brick.rows in
      let none : product p.brick (scale l d) ≡ zeros r =
      rows-scale p.brick.rows l d ∙ ap (scale l) still.still ∙ scale-zeros l r in
      let image : product p.brick (add v (scale l d)) ≡ product p.brick v =
      rows-add p.brick.rows v (scale l d) (size ∙ sym (length-scale l d ∙ still.size))
      ∙ ap (add (product p.brick v)) none
      ∙ add_zeros (product p.brick v) r (length-rows p.brick.rows v) in
      ap (λ w. norm1 (sub b.right w)) image

  moved_rows : (k : ℕ) (bs : List Brick) (x h : Bricks) → length h ≡ length x → AreSized p.brick.cols x →
      AllByRecursion (IsStill p.brick) h → NoResidual bs x → NoResidual bs (moved x k h)
  moved_rows k [] [] h size sized still rows = tt
  moved_rows k [] (v ∷ x) h size sized still rows = absurd rows
  moved_rows k (b ∷ bs) [] h size sized still rows = absurd rows
  moved_rows k (b ∷ bs) (v ∷ x) [] size sized still rows = absurd (omega arith)
  moved_rows k (b ∷ bs) (v ∷ x) (d ∷ h) size sized still rows = (
    same_residual b k v d sized.0 still.0 ∙ rows.0,
    moved_rows k bs x h (omega arith) sized.1 still.1 rows.1,
  )

  module _ (phase : Phase) where
    -- within the bounds, with the brick rows met, where the phase wants it
    pub record IsMet (x : Bricks) : Type 0 where
      pub within : AreWithin p.bricks x
      pub rows : NoResidual p.bricks x
      pub ends : AllowsEnd p phase x

    -- such a point from which no step lowers the phase cost
    pub record IsDone (zs : List Vector) (x : Bricks) : Type 0 where
      pub met : IsMet x
      pub none : NoneAugments p phase zs x

    module _ (s : ℕ) (is : AllByRecursion (IsBrick p.brick.cols s) p.bricks) (zs : List Vector)
        (still : (w : Vector) → Contains zs w → IsStill p.brick w) where
      all_still : (h : Bricks) → AllByRecursion (Contains zs) h → AllByRecursion (IsStill p.brick) h
      all_still [] all = tt
      all_still (d ∷ h) all = (still d all.0, all_still h all.1)

      step_met : (x : Bricks) (m : Move) → IsMet x → IsBest p phase zs x m → IsMet (moved x m.k m.bricks)
      step_met x m met best =
          let candidate = best.augments.candidate in
          record {
            within = candidate.walk.within;
            rows =
                moved_rows m.k p.bricks x m.bricks candidate.walk.size
                (points_sized p.brick.cols s p.bricks x is met.within)
                (all_still m.bricks (recursion_from_All (Contains zs) m.bricks candidate.walk.moves)) met.rows;
            ends = candidate.end;
          }

      pub run_done : (x : Bricks) (ms : List Move) (last : Bricks) → IsMet x → IsRun p phase zs x ms last →
          IsDone zs last
      run_done x [] last met run = subst (IsDone zs) (sym run.1) (record { met = met; none = run.0 })
      run_done x (m ∷ ms) last met run = run_done (moved x m.k m.bricks) ms last (step_met x m met run.0) run.1
