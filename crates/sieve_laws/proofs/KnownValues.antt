-- The words of the sieve at values worked by hand: the sums of one entry -1, 0 and 1, which have the places 0, 1 and 2.
use Rattle.std.proofs.Common.{◌≡◌, pos, negsuc, List, [], ◌∷◌, Some, None, refl}
use Rattle.lattice_theory.specs.Vectors.{Vector}
use Rattle.sieve_laws.specs.Sieve.{Layer, Menu, Leads, Reaches, Goes, lesser, after, live}

abbrev three : List Vector
three = (negsuc 0 ∷ []) ∷ (pos 0 ∷ []) ∷ (pos 1 ∷ []) ∷ []

-- walks cost 7 from -1 and 4 from 0, and there is none from 1
abbrev layer : Layer
layer = Some (pos 7) ∷ Some (pos 4) ∷ None ∷ []

-- the brick may go back by 1 for 2, and on by 1 at a gain of 3
abbrev menu : Menu
menu = record { place = 0; change = pos 2 } ∷ record { place = 2; change = negsuc 2 } ∷ []

known_lesser : lesser (Some (pos 7)) (Some (pos 1)) ≡ Some (pos 1)
known_lesser = refl

known_tie : lesser (Some (pos 4)) (Some (pos 4)) ≡ Some (pos 4)
known_tie = refl

known_endless : lesser None (Some (pos 9)) ≡ Some (pos 9)
known_endless = refl

-- under the limit 4 the cell of -1 is dead, and the one that costs just 4 is live
known_live : live (pos 4) layer ≡ None ∷ Some (pos 4) ∷ None ∷ []
known_live = refl

-- four times the move 1 from 2 leads to 6
known_after : after 2 (pos 2 ∷ []) (pos 1 ∷ []) ≡ pos 6 ∷ []
known_after = refl

-- from -1 the move 1 leads to 0
known_leads : Leads three 2 0 1
known_leads = record { from = negsuc 0 ∷ []; start = refl; by = pos 1 ∷ []; move = refl; end = refl }

known_reaches : Reaches three layer 2 0 (pos 4)
known_reaches = record { to = 1; leads = known_leads; cell = refl }

-- so it costs 1 with the walk behind it, which is 6 less than to stay
known_goes : Goes three menu layer 0 1 (pos 1)
known_goes = record {
  move = record { place = 2; change = negsuc 2 };
  there = refl;
  rest = pos 4;
  reach = known_reaches;
  is = refl;
}
