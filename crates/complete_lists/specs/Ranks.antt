-- The rows of a list in another order, and the signs of their first places.
use Rattle.std.specs.Prelude.{◌≡◌, ℕ, true, List, length, map, take}
use Rattle.lattice_theory.specs.Vectors.{Vector}
use Rattle.lattice_laws.proofs.Conformal.{agree}
use Rattle.int_vectors.specs.declared.signs.Signs.{Signs}
use Rattle.int_vectors.specs.Signs.{signs_of}
use Rattle.complete_lists.specs.declared.ranked.Ranked.{Ranked}

-- the rows that are kept with their norms
abbrev pub rows_in : List Ranked → List Vector
rows_in ranked = map (λ r. r.row.items) ranked

-- the signs of so many places from the first on
abbrev pub first_signs : ℕ → Vector → Signs
first_signs places v = signs_of (take places v)

-- those of each row
abbrev pub signs_in : ℕ → List Vector → List Signs
signs_in places rows = map (first_signs places) rows

-- vectors whose first places have these signs agree in so many entries
abbrev pub AgreeIn : ℕ → Signs → Signs → ℕ → Type 0
AgreeIn places a b entries =
    (f g : Vector) → length f ≡ length g → a ≡ first_signs places f → b ≡ first_signs places g →
    agree (take entries f) (take entries g) ≡ true
