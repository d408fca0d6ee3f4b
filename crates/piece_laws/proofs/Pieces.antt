-- Pieces of brick sums, and points that no unit step betters.
use Rattle.std.proofs.Common.{◌≡◌, ◌≤ℤ◌, List, arith, inl, inr}
use Rattle.std.proofs.lemmas.Bool.{cases_lt}
use Rattle.fold_theory.specs.declared.Phase.{Phase}
use Rattle.lattice_theory.specs.SignedSums.{Sum, vectors}
use Rattle.lattice_laws.specs.VectorLists.{weight}
use Rattle.fold_theory.specs.Programs.{Program, Bricks, IsProgram, phase_cost}
use Rattle.run_theory.specs.Links.{Bases, AreBases, generators, fold_complexity}
use Rattle.run_theory.specs.BrickSums.{AreBrickSums}
use Rattle.run_theory.specs.Starts.{IsStart}
use Rattle.piece_laws.specs.Points.{forth, way}
use Rattle.piece_laws.specs.Pieces.{Piece, IsUnitStep}
use Rattle.piece_laws.proofs.Points.{same_point}
use Rattle.piece_laws.proofs.Frames.{frame_of}
use Rattle.piece_laws.proofs.Starts.{sized, same_length}
use Rattle.piece_laws.proofs.Least.{piece_of_way, least}

-- between two different points where a phase starts the way has a piece of brick sums
pub way_has_piece : (p : Program) (phase : Phase) (b : Bases) (sums : List Sum) → IsProgram p → AreBases p b →
    AreBrickSums p phase b sums → (x y : Bricks) → IsStart p phase x → IsStart p phase y → (x ≡ y → ⊥) →
    Piece p (vectors sums) (way x y)
way_has_piece p phase b sums program bases are x y at_x at_y other =
    piece_of_way p phase (generators p b.brick) (vectors sums) (fold_complexity p phase b)
    (frame_of p phase b sums bases are) x y program at_x at_y (elim (cases_lt 0 (weight (way x y))) [
      | inl some ↦ some
      | inr none ↦
          absurd (other (same_point p.brick.cols x y (sized p program x at_x.within) (sized p program y at_y.within)
          (same_length p program x y at_x.within at_y.within) (omega (arith, none))))
    ])

-- a start that no unit step of brick sums betters is a best one
pub unit_best : (p : Program) (phase : Phase) (b : Bases) (sums : List Sum) → IsProgram p → AreBases p b →
    AreBrickSums p phase b sums → (x : Bricks) → IsStart p phase x →
    ((h : Bricks) → IsUnitStep p phase (vectors sums) x h → phase_cost p phase x ≤ℤ phase_cost p phase (forth x h)) →
    (y : Bricks) → IsStart p phase y → phase_cost p phase x ≤ℤ phase_cost p phase y
unit_best p phase b sums program bases are x at_x no_gain y at_y =
    least p phase (vectors sums) x program at_x no_gain (generators p b.brick) (fold_complexity p phase b)
    (frame_of p phase b sums bases are) y at_y
