-- The steps of a phase stay where the phase wants them, so where they end the phase cost is least.
use Rattle.std.proofs.Common.{◌≡◌, ℕ, pos, ◌^◌, ◌≤ℤ◌, List, [], ◌∷◌, length, ap, arith, sym, ◌∙◌, Contains, subst}
use Rattle.std.proofs.lemmas.List.Elements.{recursion_from_All}
use Rattle.std.specs.List.{AllZip, AllByRecursion}
use Rattle.fold_theory.specs.declared.Phase.{Phase}
use Rattle.lattice_theory.specs.Vectors.{Vector, add, scale, zeros}
use Rattle.lattice_theory.specs.Matrices.{product}
use Rattle.lattice_theory.specs.SignedSums.{Sum, vectors}
use Rattle.lattice_laws.proofs.Products.{rows-add}
use Rattle.fold_theory.specs.Programs.{Program, Brick, Bricks, IsBrick, IsProgram, phase_cost}
use Rattle.run_theory.specs.Links.{Bases, AreBases}
use Rattle.run_theory.specs.BrickSums.{AreBrickSums}
use Rattle.run_theory.specs.Steps.{Move, moved, NoneAugments, IsRun, IsCandidate}
use Rattle.lattice_laws.proofs.Sums.{add_zeros}
use Rattle.lattice_laws.proofs.Multiples.{scale-zeros, length-scale, rows-scale}
use Rattle.lattice_laws.specs.VectorLists.{AreSized}
use Rattle.piece_laws.proofs.Starts.{bricks_of, sized}
use Rattle.run_theory.specs.Starts.{IsStart}
use Rattle.piece_laws.proofs.SignedSums.{IsQuiet}
use Rattle.piece_laws.proofs.Frames.{sums_quiet}
use Rattle.run_laws.proofs.Best.{finished_is_best}

module _ (p : Program) (t : ℕ) where
  abbrev Meet : List Brick → Bricks → Type 0
  Meet bs x = AllZip (λ b v. product p.brick v ≡ b.right) bs x

  -- a move that changes no brick row keeps them met, however long the step is
  moved_meets : (k : ℕ) (bs : List Brick) (x h : Bricks) → AllByRecursion (IsBrick t (length p.brick.rows)) bs →
      AreSized t x → length h ≡ length x → AllByRecursion (IsQuiet t p.brick.rows) h → Meet bs x →
      Meet bs (moved x k h)
  moved_meets k [] [] h is sx size quiet meets = tt
  moved_meets k [] (v ∷ x) h is sx size quiet meets = absurd meets
  moved_meets k (b ∷ bs) [] h is sx size quiet meets = absurd meets
  moved_meets k (b ∷ bs) (v ∷ x) [] is sx size quiet meets = absurd (omega arith)
  moved_meets k (b ∷ bs) (v ∷ x) (d ∷ h) is sx size quiet meets =
      let s = length p.brick.rows in
      let a = pos (2 ^ k) in
      let none : product p.brick (scale a d) ≡ zeros s =
      rows-scale p.brick.rows a d ∙ ap (scale a) quiet.0.still ∙ scale-zeros a s in (
        rows-add p.brick.rows v (scale a d) (sx.0 ∙ sym (length-scale a d ∙ quiet.0.size))
            ∙ (λ i. add (meets.0 i) (none i))
            ∙ add_zeros b.right s is.0.right_size,
        moved_meets k bs x h is.1 sx.1 (omega arith) quiet.1 meets.1,
      )

-- a point where the phase starts, and no step from it lowers the phase cost
pub record IsFinished (p : Program) (phase : Phase) (zs : List Vector) (x : Bricks) : Type 0 where
  pub start : IsStart p phase x
  pub none : NoneAugments p phase zs x

module _ (p : Program) (phase : Phase) (zs : List Vector) (program : IsProgram p)
    (quiet : (w : Vector) → Contains zs w → IsQuiet p.brick.cols p.brick.rows w) where
  all_quiet : (h : Bricks) → AllByRecursion (Contains zs) h → AllByRecursion (IsQuiet p.brick.cols p.brick.rows) h
  all_quiet [] listed = tt
  all_quiet (d ∷ h) listed = (quiet d listed.0, all_quiet h listed.1)

  -- a candidate step leads to a point where the phase may go on
  pub step_start : (x : Bricks) (k : ℕ) (h : Bricks) → IsStart p phase x → IsCandidate p phase zs x k h →
      IsStart p phase (moved x k h)
  step_start x k h start step = record {
    within = step.walk.within;
    brick_rows =
        moved_meets p p.brick.cols k p.bricks x h (bricks_of p program) (sized p program x start.within) step.walk.size
        (all_quiet h (recursion_from_All (Contains zs) h step.walk.moves)) start.brick_rows;
    end = step.end;
  }

  -- where a run ends
  run_finished : (moves : List Move) (x last : Bricks) → IsStart p phase x → IsRun p phase zs x moves last →
      IsFinished p phase zs last
  run_finished [] x last start run =
      subst (IsFinished p phase zs) (sym run.1) (record { start = start; none = run.0 })
  run_finished (m ∷ moves) x last start run =
      run_finished moves (moved x m.k m.bricks) last
      (step_start x m.k m.bricks start run.0.augments.candidate) run.1

-- the end of a run over the brick sums: such a point, and none has a lower phase cost
pub record IsBestStart (p : Program) (phase : Phase) (x : Bricks) : Type 0 where
  pub start : IsStart p phase x
  pub least : (y : Bricks) → IsStart p phase y → phase_cost p phase x ≤ℤ phase_cost p phase y

-- where a run ends, the start is a best one
pub run_best : (p : Program) (phase : Phase) (b : Bases) (sums : List Sum) (moves : List Move) (x last : Bricks) →
    IsProgram p → AreBases p b → AreBrickSums p phase b sums → IsStart p phase x →
    IsRun p phase (vectors sums) x moves last → IsBestStart p phase last
run_best p phase b sums moves x last program bases are start run =
    let f =
    run_finished p phase (vectors sums) program (sums_quiet p phase b sums bases are) moves x last start run in
    record {
      start = f.start;
      least = λ y other. finished_is_best p phase b sums last y program bases are f.start f.none other;
    }
