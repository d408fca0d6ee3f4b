-- The definitions at the numbers 0 and 1 with one customer, worked by hand.
use Rattle.std.proofs.Common.{◌≡◌, pos, [], ◌∷◌, refl}
use Rattle.lattice_theory.specs.Vectors.{Vector}
use Rattle.fold_theory.specs.declared.Cost.TheVariants.{Quadratic}
use Rattle.fold_gen.specs.Draws.{next, after, customers}
use Rattle.fold_gen.specs.Transports.{sent, brick_of, transport}

-- 149, 11249, 57305, 38044, 35283, 24819, 26463, 18689 and 25472 come after 1
turns : after 9 1 ≡ 25472
unfolding next
turns = refl

-- a demand of 2, all from the third supplier, at 2v² + 3v, v² + 3v and 3v
first_trial : customers 1 1 ≡ record {
  demand = 2;
  first = record { a = 2; b = 3 };
  second = record { a = 1; b = 3 };
  third = record { a = 0; b = 3 };
  planted = record { first = 0; second = 0; third = 2 };
} ∷ []
unfolding next
first_trial = refl

-- a demand of 3, two from the first supplier and one from the third, at 2v² + v, v² + v and v² + v
trial_zero : customers 1 0 ≡ record {
  demand = 3;
  first = record { a = 2; b = 1 };
  second = record { a = 1; b = 1 };
  third = record { a = 1; b = 1 };
  planted = record { first = 2; second = 0; third = 1 };
} ∷ []
unfolding next
trial_zero = refl

its_links : (transport 1 1).link_right ≡ pos 0 ∷ pos 0 ∷ pos 2 ∷ []
unfolding next
its_links = refl
