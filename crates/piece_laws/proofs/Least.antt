-- Where no unit step leads to a lower phase cost from a point where the phase starts, no other such point has a lower
-- one: a piece of the way to it leads to a nearer one that costs no more.
use Rattle.std.proofs.Common.{◌≡◌, ℕ, zero, suc, ◌<◌, ◌≤ℤ◌, List, ap, arith, inl, inr}
use Rattle.std.proofs.lemmas.Int.{ints}
use Rattle.std.proofs.lemmas.Bool.{cases_lt}
use Rattle.fold_theory.specs.declared.Phase.{Phase}
use Rattle.lattice_theory.specs.Vectors.{Vector}
use Rattle.lattice_laws.specs.VectorLists.{weight}
use Rattle.fold_theory.specs.Programs.{Program, Bricks, IsProgram, phase_cost}
use Rattle.run_theory.specs.Starts.{IsStart}
use Rattle.piece_laws.specs.Points.{forth, back, way}
use Rattle.piece_laws.specs.Pieces.{Piece, IsUnitStep}
use Rattle.piece_laws.proofs.Points.{nearer, same_point}
use Rattle.piece_laws.proofs.OnePiece.{Frame, one_piece}
use Rattle.piece_laws.proofs.Starts.{sized, same_length, way-sized, still_way, tight_way, ends_of, back_start}

-- the way between two points has a piece, where it is not 0
pub piece_of_way : (p : Program) (phase : Phase) (gens zs : List Vector) (bound : ℕ) → Frame p phase gens zs bound →
    (x y : Bricks) → IsProgram p → IsStart p phase x → IsStart p phase y → 0 < weight (way x y) → Piece p zs (way x y)
piece_of_way p phase gens zs bound frame x y program at_x at_y some =
    one_piece p phase gens zs bound frame (way x y) (way-sized p phase program x y at_x at_y)
    (still_way p phase program x y at_x at_y) (tight_way p phase program x y at_x at_y) some

module _ (p : Program) (phase : Phase) (zs : List Vector) (x : Bricks) (program : IsProgram p)
    (at_x : IsStart p phase x)
    (no_gain : (h : Bricks) → IsUnitStep p phase zs x h → phase_cost p phase x ≤ℤ phase_cost p phase (forth x h)) where
  -- a point that is nearer to x and costs no more
  record Nearer (y : Bricks) : Type 0 where
    point : Bricks
    start : IsStart p phase point
    near : weight (way x point) < weight (way x y)
    costs : phase_cost p phase point ≤ℤ phase_cost p phase y

  -- by a piece of the way
  nearer_by : (y : Bricks) → IsStart p phase y → Piece p zs (way x y) → Nearer y
  nearer_by y at_y q =
      let ends = ends_of p phase program x y at_x at_y q.move (record { bricks = q.below; links = q.links }) in
      let step : IsUnitStep p phase zs x q.move =
      record {
        size = ends.size;
        sized = ends.small;
        moves = q.moves;
        sums = q.sums;
        within = ends.forth_within;
        end = ends.forth_end;
      } in
      record {
        point = back y q.move;
        start = back_start p phase program x y at_x at_y q.move ends q.still;
        near = omega (arith, nearer q.move x y q.below, q.nonzero);
        costs = omega (arith, ints, ends.costs, no_gain q.move step);
      }

  module _ (gens : List Vector) (bound : ℕ) (frame : Frame p phase gens zs bound) where
    -- by the distance
    reached : (k : ℕ) (y : Bricks) → weight (way x y) < k → IsStart p phase y →
        phase_cost p phase x ≤ℤ phase_cost p phase y
    reached zero y near at_y = absurd (omega arith)
    reached (suc k) y near at_y = elim (cases_lt 0 (weight (way x y))) [
      | inr none ↦
          let same : x ≡ y =
          same_point p.brick.cols x y (sized p program x at_x.within) (sized p program y at_y.within)
          (same_length p program x y at_x.within at_y.within) (omega (arith, none)) in
          omega (arith, ints, ap (phase_cost p phase) same)
      | inl some ↦
          let r = nearer_by y at_y (piece_of_way p phase gens zs bound frame x y program at_x at_y some) in
          omega (arith, ints, reached k r.point (omega (arith, r.near, near)) r.start, r.costs)
    ]

    -- no point where the phase starts costs less
    pub least : (y : Bricks) → IsStart p phase y → phase_cost p phase x ≤ℤ phase_cost p phase y
    least y at_y = reached (suc (weight (way x y))) y (omega arith) at_y
