-- Pieces and parts of ways at values worked by hand: two bricks with two columns, and a linking row on the first
-- columns. From (0 4), (3 1) to (1 3), (2 2) the first brick goes up by (1 -1) and the second down by it.
use Rattle.std.specs.Prelude.{◌≡◌, pos, false, List, [], ◌∷◌, refl}
use Rattle.std.proofs.Common.{arith}
use Rattle.std.proofs.lemmas.Int.{ints}
use Rattle.fold_theory.specs.declared.Phase.TheVariants.{Closed}
use Rattle.lattice_theory.specs.Vectors.{Vector, conforms}
use Rattle.lattice_theory.proofs.KnownValues.{minus}
use Rattle.fold_theory.specs.Programs.{Bricks, phase_cost}
use Rattle.fold_theory.proofs.KnownValues.{the_program, point_of, best_point}
use Rattle.piece_laws.specs.Points.{forth, back, way, image, IsPartOfWay}
use Rattle.piece_laws.specs.Pieces.{Piece, IsUnitStep}
use Rattle.piece_laws.proofs.KnownPrograms.{from_zero_to_four}

abbrev one_up : Vector
one_up = pos 1 ∷ minus 1 ∷ []

abbrev one_down : Vector
one_down = minus 1 ∷ pos 1 ∷ []

abbrev the_start : Bricks
the_start = point_of (pos 0) (pos 4) (pos 3) (pos 1)

pub the_way : way the_start best_point ≡ one_up ∷ one_down ∷ []
the_way = refl

-- what the first brick adds to the linking row the second takes away
pub its_image : image the_program (way the_start best_point) ≡ pos 0 ∷ []
its_image = refl

-- the first brick alone is a part of each brick of the way, and changes the linking row by 1, which is no part of 0
abbrev half_a_way : Bricks
half_a_way = one_up ∷ (pos 0 ∷ pos 0 ∷ []) ∷ []

pub half_a_way_is_no_part :
    conforms (image the_program half_a_way) (image the_program (way the_start best_point)) ≡ false
half_a_way_is_no_part = refl

-- the whole way is a part of itself
pub whole_is_a_part : IsPartOfWay the_program the_start best_point (one_up ∷ one_down ∷ [])
whole_is_a_part = record { bricks = (refl, (refl, tt)); links = refl }

-- its two ends cost 5 and 9, as the two points do
pub forth_costs : phase_cost the_program Closed (forth the_start (one_up ∷ one_down ∷ [])) ≡ pos 5
forth_costs = refl

pub back_costs : phase_cost the_program Closed (back best_point (one_up ∷ one_down ∷ [])) ≡ pos 9
back_costs = refl

-- the sums on the way are (1 -1) and (0 0)
abbrev the_sums : List Vector
the_sums = one_down ∷ (pos 0 ∷ pos 0 ∷ []) ∷ one_up ∷ []

-- the whole way is a piece of itself
pub whole_is_a_piece : Piece the_program the_sums (way the_start best_point)
whole_is_a_piece = record {
  move = one_up ∷ one_down ∷ [];
  nonzero = omega arith;
  below = (refl, (refl, tt));
  moves = ((2, (omega arith), refl), ((0, (omega arith), refl), tt));
  sums = ((2, (omega arith), refl), ((1, (omega arith), refl), tt));
  still = (refl, (refl, tt));
  links = refl;
}

-- and a unit step to the better point
pub it_is_a_unit_step : IsUnitStep the_program Closed the_sums the_start (one_up ∷ one_down ∷ [])
it_is_a_unit_step = record {
  size = refl;
  sized = (refl, (refl, tt));
  moves = ((2, (omega arith), refl), ((0, (omega arith), refl), tt));
  sums = ((2, (omega arith), refl), ((1, (omega arith), refl), tt));
  within = (
    from_zero_to_four 4 (pos 1) (pos 3) (omega (arith, ints)) (omega (arith, ints)) (omega (arith, ints))
        (omega (arith, ints)),
    (
      from_zero_to_four 4 (pos 2) (pos 2) (omega (arith, ints)) (omega (arith, ints)) (omega (arith, ints))
          (omega (arith, ints)),
      tt,
    ),
  );
  end = refl;
}
