-- Where steps lead, at values worked by hand.
use Rattle.std.proofs.Common.{◌≡◌, pos, negsuc, [], ◌∷◌, refl}
use Rattle.step_targets.specs.Targets.{after, AreBetween}

known_after : after 1 (pos 0 ∷ pos 4 ∷ []) (pos 1 ∷ negsuc 0 ∷ []) ≡ pos 2 ∷ pos 2 ∷ []
known_after = refl

-- the longest length
known_longest : after 63 (negsuc 4611686018427387903 ∷ []) (pos 1 ∷ []) ≡ pos 4611686018427387904 ∷ []
known_longest = refl

-- (2 -1) lies between (1 -1) and (2 0)
lies_between : AreBetween (pos 1 ∷ negsuc 0 ∷ []) (pos 2 ∷ pos 0 ∷ []) (pos 2 ∷ negsuc 0 ∷ [])
lies_between = ((record { le = tt }, (record { le = tt }, tt)), (record { le = tt }, (record { le = tt }, tt)))
