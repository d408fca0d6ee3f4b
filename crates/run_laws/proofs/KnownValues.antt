-- Where a phase starts, at points of a program of two bricks with the row v1 + v2 = 4, bounds 0 and 4, and one linking
-- row, by which the first columns are to add up to 3.
use Rattle.std.specs.Prelude.{pos, [], ◌∷◌, refl}
use Rattle.std.proofs.Common.{arith}
use Rattle.std.proofs.lemmas.Int.{ints}
use Rattle.fold_theory.specs.declared.Phase.TheVariants.{Closed, Counted}
use Rattle.lattice_theory.proofs.KnownValues.{minus}
use Rattle.fold_theory.proofs.KnownValues.{the_program, point_of, best_point}
use Rattle.run_theory.specs.Starts.{IsStart}
use Rattle.piece_laws.proofs.KnownPrograms.{from_zero_to_four}

-- (1 3), (2 2)
pub best_point_is_a_start : IsStart the_program Closed best_point
best_point_is_a_start = record {
  within = (
    from_zero_to_four 4 (pos 1) (pos 3) (omega (arith, ints)) (omega (arith, ints)) (omega (arith, ints))
        (omega (arith, ints)),
    (
      from_zero_to_four 4 (pos 2) (pos 2) (omega (arith, ints)) (omega (arith, ints)) (omega (arith, ints))
          (omega (arith, ints)),
      tt,
    ),
  );
  brick_rows = (refl, (refl, tt));
  end = refl;
}

-- 0 + 2 misses the linking row, which the closed phase wants met, and the counted phase does not
pub missed_link_is_no_closed_start : IsStart the_program Closed (point_of (pos 0) (pos 4) (pos 2) (pos 2)) → ⊥
missed_link_is_no_closed_start start = absurd (cc (start.end))

pub missed_link_is_a_counted_start : IsStart the_program Counted (point_of (pos 0) (pos 4) (pos 2) (pos 2))
missed_link_is_a_counted_start = record {
  within = (
    from_zero_to_four 4 (pos 0) (pos 4) (omega (arith, ints)) (omega (arith, ints)) (omega (arith, ints))
        (omega (arith, ints)),
    (
      from_zero_to_four 4 (pos 2) (pos 2) (omega (arith, ints)) (omega (arith, ints)) (omega (arith, ints))
          (omega (arith, ints)),
      tt,
    ),
  );
  brick_rows = (refl, (refl, tt));
  end = tt;
}

-- 2 + 1 misses the row of the second brick
pub missed_row_is_no_start : IsStart the_program Counted (point_of (pos 1) (pos 3) (pos 2) (pos 1)) → ⊥
missed_row_is_no_start start = absurd (cc (start.brick_rows.1.0))

-- 5 is above the bound, and -1 below it
pub outside_is_no_start : IsStart the_program Counted (point_of (pos 5) (minus 1) (pos 2) (pos 2)) → ⊥
outside_is_no_start start = absurd (omega (arith, ints, start.within.0.1.0))

-- a point has a vector for each brick
pub one_vector_is_no_start : IsStart the_program Counted ((pos 1 ∷ pos 3 ∷ []) ∷ []) → ⊥
one_vector_is_no_start start = start.within.1
