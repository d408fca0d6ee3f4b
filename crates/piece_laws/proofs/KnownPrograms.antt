-- That the programs worked by hand are programs: two bricks with two columns, bounds 0 and 4 and the row v1 + v2, and
-- one linking row on the first columns.
use Rattle.std.specs.Prelude.{◌≡◌, ℕ, zero, suc, ℤ, pos, negsuc, ◌+ℤ◌, ◌≤ℤ◌, [], ◌∷◌, length, refl}
use Rattle.std.proofs.Common.{arith}
use Rattle.std.proofs.lemmas.Int.{ints}
use Rattle.std.proofs.lemmas.List.Elements.{All-from_recursion}
use Rattle.lattice_theory.specs.Vectors.{Vector}
use Rattle.lattice_theory.specs.Matrices.{HasShape}
use Rattle.fold_theory.specs.Programs.{IsBrick, IsProgram, IsWithin}
use Rattle.fold_theory.specs.Costs.{value, IsConvexOn}
use Rattle.fold_theory.proofs.KnownValues.{square, free, brick_with, related_program}
use Rattle.fold_theory.specs.declared.Relation.{Relation}

-- a cost that is convex from 0 to 4 by its values at 1, 2 and 3
convex_upto_four : (f : ℤ → ℤ) → (f (pos 1) +ℤ f (pos 1)) ≤ℤ (f (pos 0) +ℤ f (pos 2)) →
    (f (pos 2) +ℤ f (pos 2)) ≤ℤ (f (pos 1) +ℤ f (pos 3)) → (f (pos 3) +ℤ f (pos 3)) ≤ℤ (f (pos 2) +ℤ f (pos 4)) →
    IsConvexOn f (pos 0) (pos 4)
convex_upto_four f at_one at_two at_three (pos zero) low high = absurd (omega (arith, ints, low))
convex_upto_four f at_one at_two at_three (pos (suc zero)) low high = at_one
convex_upto_four f at_one at_two at_three (pos (suc (suc zero))) low high = at_two
convex_upto_four f at_one at_two at_three (pos (suc (suc (suc zero)))) low high = at_three
convex_upto_four f at_one at_two at_three (pos (suc (suc (suc (suc n))))) low high = absurd (omega (arith, ints, high))
convex_upto_four f at_one at_two at_three (negsuc n) low high = absurd (omega (arith, ints, low))

pub one_brick : (right : ℕ) → IsBrick 2 1 (brick_with right)
one_brick right = record {
  lower_size = refl;
  upper_size = refl;
  right_size = refl;
  uncrossed = (omega (arith, ints), (omega (arith, ints), tt));
  costs_size = refl;
  convex = (
    convex_upto_four (value square) (omega (arith, ints)) (omega (arith, ints)) (omega (arith, ints)),
    (convex_upto_four (value free) (omega (arith, ints)) (omega (arith, ints)) (omega (arith, ints)), tt),
  );
}

pub one_row : (row : Vector) → length row ≡ 2 → HasShape 1 2 (record { cols = 2; rows = row ∷ [] })
one_row row size = record {
  height = refl;
  width = refl;
  each_row = All-from_recursion (λ r. length r ≡ 2) (row ∷ []) (size, tt);
}

pub is_a_program : (relation : Relation) (link_right right : ℕ) → IsProgram (related_program relation link_right right)
is_a_program relation link_right right = record {
  link_shape = one_row (pos 1 ∷ pos 0 ∷ []) refl;
  brick_shape = one_row (pos 1 ∷ pos 1 ∷ []) refl;
  right_size = refl;
  relations_size = refl;
  each_brick =
      All-from_recursion (IsBrick 2 1) (brick_with right ∷ brick_with 4 ∷ []) (one_brick right, (one_brick 4, tt));
}

-- a vector within the bounds of a brick
pub from_zero_to_four : (right : ℕ) (a b : ℤ) → pos 0 ≤ℤ a → a ≤ℤ pos 4 → pos 0 ≤ℤ b → b ≤ℤ pos 4 →
    IsWithin (brick_with right) (a ∷ b ∷ [])
from_zero_to_four right a b low high left top = ((low, (left, tt)), (high, (top, tt)))
