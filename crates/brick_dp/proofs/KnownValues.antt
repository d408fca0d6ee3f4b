-- Answers of bounds, at values worked by hand.
use Rattle.std.proofs.Common.{Some, refl}
use Rattle.run_theory.specs.Keys.{IsNoWorse}

-- after a gain of 4 at length 2 the same gain at length 1 is no worse
known_later : IsNoWorse (Some (record { gain = 4; k = 1 })) (Some (record { gain = 4; k = 0 }))
known_later = refl
