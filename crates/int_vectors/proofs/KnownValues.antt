-- The words of the signs at values worked by hand.
use Rattle.std.specs.Prelude.{◌≡◌, pos, neg_ℤ, true, [], ◌∷◌, refl}
use Rattle.int_vectors.specs.Signs.{signs_of, mark}

-- the positive entries of (5 0 -2 1) stand at the places 0 and 3, the negative one at place 2
some_signs : signs_of (pos 5 ∷ pos 0 ∷ neg_ℤ (pos 2) ∷ pos 1 ∷ []) ≡ record { up = 9; down = 4 }
some_signs = refl

-- place 64 shares the bit of place 0
a_folded_place : mark true 64 ≡ 1
a_folded_place = refl
