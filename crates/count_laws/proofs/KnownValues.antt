-- The law at values worked by hand: two bricks with the row v1 + v2 = 4, bounds 0 and 4 and cost v1 * v1, and one
-- linking row, by which the first columns are to add up to 3.
use Rattle.std.specs.Prelude.{◌≡◌, ◌*◌, ◌≤◌, ◌-ℤ◌, pos, neg_ℤ, unsigned_abs, map, List, [], ◌∷◌, length, refl}
use Rattle.std.proofs.Common.{arith, ap}
use Rattle.std.proofs.lemmas.Int.{ints}
use Rattle.fold_theory.specs.declared.Phase.TheVariants.{Closed}
use Rattle.lattice_theory.specs.Vectors.{Vector}
use Rattle.lattice_theory.specs.SignedSums.{Sum, vectors}
use Rattle.lattice_theory.proofs.KnownValues.{minus}
use Rattle.fold_theory.specs.Programs.{Bricks, phase_cost}
use Rattle.run_theory.specs.Links.{Bases, AreBases}
use Rattle.run_theory.specs.BrickSums.{AreBrickSums}
use Rattle.run_theory.specs.Steps.{Move, IsRun}
use Rattle.run_theory.specs.Outcomes.{bound_number}
use Rattle.fold_theory.proofs.KnownValues.{the_program, point_of, best_point}
use Rattle.piece_laws.proofs.KnownPrograms.{is_a_program, from_zero_to_four}
use Rattle.run_theory.specs.Starts.{IsStart}
use Rattle.run_theory.specs.Digits.{binary_digits}
use Rattle.count_laws.proofs.FewSteps.{few_steps}
use Rattle.fold_theory.specs.declared.Relation.TheVariants.{Equal}
use Rattle.run_laws.proofs.SmallPrograms as small

-- ---- binary digits

pub none_of_zero : binary_digits 0 ≡ 0
none_of_zero = refl

pub one_of_one : binary_digits 1 ≡ 1
one_of_one = refl

-- 100, 111 and 1000
pub three_of_four : binary_digits 4 ≡ 3
three_of_four = refl

pub three_of_seven : binary_digits 7 ≡ 3
three_of_seven = refl

pub four_of_eight : binary_digits 8 ≡ 4
four_of_eight = refl

-- ---- the steps of a run

-- the sums of at most two generators (1 -1), of either sign
abbrev the_sums : List Vector
the_sums = map (λ a. a ∷ neg_ℤ a ∷ []) (minus 2 ∷ minus 1 ∷ pos 0 ∷ pos 1 ∷ pos 2 ∷ [])

-- two bricks of two columns and one linking row, where no entry is past 2: 2 * 5 * 2
pub its_bound_number : bound_number the_program the_sums ≡ 20
its_bound_number = refl

-- (0 4), (3 1) costs 9, and the best point costs 5
abbrev the_start : Bricks
the_start = point_of (pos 0) (pos 4) (pos 3) (pos 1)

pub whole_gain : unsigned_abs (phase_cost the_program Closed the_start -ℤ phase_cost the_program Closed best_point) ≡ 4
whole_gain = refl

it_is_a_start : IsStart the_program Closed the_start
it_is_a_start = record {
  within = (
    from_zero_to_four 4 (pos 0) (pos 4) (omega (arith, ints)) (omega (arith, ints)) (omega (arith, ints))
        (omega (arith, ints)),
    (
      from_zero_to_four 4 (pos 3) (pos 1) (omega (arith, ints)) (omega (arith, ints)) (omega (arith, ints))
          (omega (arith, ints)),
      tt,
    ),
  );
  brick_rows = (refl, (refl, tt));
  end = refl;
}

-- 20 * 3
pub at_most_sixty : (b : Bases) (sums : List Sum) (moves : List Move) → vectors sums ≡ the_sums →
    AreBases the_program b → AreBrickSums the_program Closed b sums →
    IsRun the_program Closed (vectors sums) the_start moves best_point → length moves ≤ 60
at_most_sixty b sums moves same bases are run =
    let whole : bound_number the_program (vectors sums) * binary_digits 4 ≡ 60 =
    ap (λ zs. bound_number the_program zs * binary_digits 4) same in
    omega (
      arith,
      few_steps the_program Closed b sums the_start best_point moves (is_a_program Equal 3 4) bases are it_is_a_start
          run,
      whole,
    )

-- ---- a run of one step, by which a linking row that is no equation changes

-- one brick of one column and one linking row, where no entry is past 2: 2 * 2 * 2
pub its_factor : bound_number small.the_program (vectors small.the_sums) ≡ 8
its_factor = refl

-- all premises of the law are met: 8 * 1
pub at_most_eight : length (small.the_move ∷ []) ≤ 8
at_most_eight =
    few_steps small.the_program Closed small.the_bases small.the_sums (small.at (pos 0)) (small.at (pos 1))
    (small.the_move ∷ []) small.it_is_a_program small.they_are_bases small.they_are_sums
    (small.is_start (pos 0) (omega (arith, ints)) (omega (arith, ints))) small.its_run
